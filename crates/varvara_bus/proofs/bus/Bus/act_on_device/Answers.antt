use Rattle.std.proofs.Common.{[], ◌∷◌, refl}
use Rattle.uxn_io_traits.specs.EndedLaws.{outside-of-out, outside-of-err}
use Rattle.varvara_bus.specs.declared.ports.Action.TheVariants.{PutsDebugText, PutsOut, PutsErr}
use Rattle.varvara_bus.specs.Effect.{debug_bytes, width_requested, height_requested, pixel_drawn, sprite_drawn, note_started}
use Rattle.varvara_bus.proofs.Acts.{sink-ends, sink-ledger, core_done, devices_done, file-ends, file-ledger, tree-refuses}
use Rattle.varvara_bus.proofs.bus.Bus.act_on_device.Goals as goal

pub returns-in-Stores-clause-acted : goal.returns-in-Stores-clause-acted
returns-in-Stores-clause-acted g c = rw c.in-Stores.is (core_done _ c.args.self.now c.args.core.now _ _ c.args.value refl (λ state stood. refl))

pub returns-in-Expands-clause-acted : goal.returns-in-Expands-clause-acted
returns-in-Expands-clause-acted g c =
    rw c.in-Expands.is (core_done _ c.args.self.now c.args.core.now _ _ c.args.value refl
    (λ state stood. rw (c.expansion.ensures, c.stored_short.ensures state stood) refl))

pub returns-in-SetsWorkingPointer-clause-acted : goal.returns-in-SetsWorkingPointer-clause-acted
returns-in-SetsWorkingPointer-clause-acted g c =
    rw c.in-SetsWorkingPointer.is (core_done _ c.args.self.now c.args.core.now _ _ c.args.value refl (λ state stood. rw c.set_pointer.ensures refl))

pub returns-in-SetsReturnPointer-clause-acted : goal.returns-in-SetsReturnPointer-clause-acted
returns-in-SetsReturnPointer-clause-acted g c =
    rw c.in-SetsReturnPointer.is (core_done _ c.args.self.now c.args.core.now _ _ c.args.value refl
    (λ state stood. rw c.set_pointer-in-SetsReturnPointer.ensures refl))

pub returns-in-PutsDebugText-clause-acted : goal.returns-in-PutsDebugText-clause-acted
returns-in-PutsDebugText-clause-acted g c =
    rw c.in-PutsDebugText.is (sink-ends _ c.args.self.now _ _ c.args.core.now PutsDebugText c.args.value _ c.answer.result c.put_debug_text.result refl
    (λ state. refl) (λ state stands. stands) c.answer.ensures.ok c.answer.ensures.err
    (outside-of-err (debug_bytes c.args.value c.args.core.now) _ (g.T.Tree.state c.args.self.now.tree.now) _ _ _ c.put_debug_text.ensures) refl refl)

pub returns-in-PutsDebugText-clause-ledger : goal.returns-in-PutsDebugText-clause-ledger
returns-in-PutsDebugText-clause-ledger g c =
    sink-ledger _ c.answer.result c.put_debug_text.result _ _ c.answer.ensures.ok c.answer.ensures.err
    (outside-of-err (debug_bytes c.args.value c.args.core.now) _ (g.T.Tree.state c.args.self.now.tree.now) (g.O.Sink.state c.args.self.now.out.now) _ _
    c.put_debug_text.ensures)

pub returns-in-PutsOut-clause-acted : goal.returns-in-PutsOut-clause-acted
returns-in-PutsOut-clause-acted g c =
    rw c.in-PutsOut.is (sink-ends _ c.args.self.now _ _ c.args.core.now PutsOut c.args.value _ c.answer-in-PutsOut.result c.console_write.result refl
    (λ state. refl) (λ state stands. stands) c.answer-in-PutsOut.ensures.ok c.answer-in-PutsOut.ensures.err
    (rw (c.console_write.ensures.out_alone refl) (outside-of-out (c.args.value ∷ []) _ (g.T.Tree.state c.args.self.now.tree.now) _ _ _ (c.console_write.ensures.standard refl))) refl refl)

pub returns-in-PutsOut-clause-ledger : goal.returns-in-PutsOut-clause-ledger
returns-in-PutsOut-clause-ledger g c =
    rw (c.console_write.ensures.out_alone refl) (sink-ledger _ c.answer-in-PutsOut.result c.console_write.result _ _
    c.answer-in-PutsOut.ensures.ok c.answer-in-PutsOut.ensures.err
    (outside-of-out (c.args.value ∷ []) _ (g.T.Tree.state c.args.self.now.tree.now) _ _ (g.E.Sink.state c.args.self.now.err.now)
    (c.console_write.ensures.standard refl)))

pub returns-in-PutsErr-clause-acted : goal.returns-in-PutsErr-clause-acted
returns-in-PutsErr-clause-acted g c =
    rw c.in-PutsErr.is (sink-ends _ c.args.self.now _ _ c.args.core.now PutsErr c.args.value _ c.answer-in-PutsErr.result c.console_write-in-PutsErr.result refl
    (λ state. refl) (λ state stands. stands) c.answer-in-PutsErr.ensures.ok c.answer-in-PutsErr.ensures.err
    (rw (c.console_write-in-PutsErr.ensures.err_alone refl) (outside-of-err (c.args.value ∷ []) _ (g.T.Tree.state c.args.self.now.tree.now) _ _ _ (c.console_write-in-PutsErr.ensures.error refl))) refl refl)

pub returns-in-PutsErr-clause-ledger : goal.returns-in-PutsErr-clause-ledger
returns-in-PutsErr-clause-ledger g c =
    rw (c.console_write-in-PutsErr.ensures.err_alone refl) (sink-ledger _ c.answer-in-PutsErr.result c.console_write-in-PutsErr.result _ _
    c.answer-in-PutsErr.ensures.ok c.answer-in-PutsErr.ensures.err
    (outside-of-err (c.args.value ∷ []) _ (g.T.Tree.state c.args.self.now.tree.now) (g.O.Sink.state c.args.self.now.out.now) _ _
    (c.console_write-in-PutsErr.ensures.error refl)))

pub returns-in-AsksWidth-clause-acted : goal.returns-in-AsksWidth-clause-acted
returns-in-AsksWidth-clause-acted g c =
    rw c.in-AsksWidth.is (devices_done _ c.args.self.now _ c.args.core.now _ c.args.value width_requested (λ state. refl) c.ask_width.ensures.stands refl refl
    c.ask_width.ensures.frames c.ask_width.ensures.clock c.ask_width.ensures.root)

pub returns-in-AsksHeight-clause-acted : goal.returns-in-AsksHeight-clause-acted
returns-in-AsksHeight-clause-acted g c =
    rw c.in-AsksHeight.is (devices_done _ c.args.self.now _ c.args.core.now _ c.args.value height_requested (λ state. refl) c.ask_height.ensures.stands refl refl
    c.ask_height.ensures.frames c.ask_height.ensures.clock c.ask_height.ensures.root)

pub returns-in-DrawsPixel-clause-acted : goal.returns-in-DrawsPixel-clause-acted
returns-in-DrawsPixel-clause-acted g c =
    rw c.in-DrawsPixel.is (devices_done _ c.args.self.now _ c.args.core.now _ c.args.value (pixel_drawn c.args.value) (λ state. refl) c.draw_pixel.ensures.stands refl refl
    c.draw_pixel.ensures.frames c.draw_pixel.ensures.clock c.draw_pixel.ensures.root)

pub returns-in-DrawsSprite-clause-acted : goal.returns-in-DrawsSprite-clause-acted
returns-in-DrawsSprite-clause-acted g c =
    rw c.in-DrawsSprite.is (devices_done _ c.args.self.now _ c.args.core.now _ c.args.value (sprite_drawn c.args.value c.args.core.now.memory) (λ state. refl) c.draw_sprite.ensures.stands refl refl
    c.draw_sprite.ensures.frames c.draw_sprite.ensures.clock c.draw_sprite.ensures.root)

pub returns-in-StartsNote-clause-acted : goal.returns-in-StartsNote-clause-acted
returns-in-StartsNote-clause-acted g c =
    rw c.in-StartsNote.is (devices_done _ c.args.self.now _ c.args.core.now _ c.args.value (note_started c.in-StartsNote.voice) (λ state. refl) c.start_note.ensures.stands refl refl
    c.start_note.ensures.frames c.start_note.ensures.clock c.start_note.ensures.root)

pub returns-in-ActsOnFile-clause-acted : goal.returns-in-ActsOnFile-clause-acted
returns-in-ActsOnFile-clause-acted g c =
    rw c.in-ActsOnFile.is (file-ends _ c.args.self.now _ _ c.args.core.now _ c.in-ActsOnFile.number c.in-ActsOnFile.act c.args.value c.act_on_file.result
    c.act_on_file.ensures.tree c.act_on_file.ensures.acted
    (record {
      borrowed = record { devices = refl; tree = refl; out = refl; err = refl };
      files = c.act_on_file.ensures.stay;
      refusals = λ none. tree-refuses g.T.Tree c.args.self.now.tree.now _ (c.act_on_file.ensures.untouched none);
      frames = c.act_on_file.ensures.frames;
      clock = c.act_on_file.ensures.clock;
      root = c.act_on_file.ensures.root;
    }))

pub returns-in-ActsOnFile-clause-ledger : goal.returns-in-ActsOnFile-clause-ledger
returns-in-ActsOnFile-clause-ledger g c =
    file-ledger c.in-ActsOnFile.number c.in-ActsOnFile.act _ _ _ _ _ c.act_on_file.result _ _ _ _ c.act_on_file.ensures.counted c.act_on_file.ensures.acted
