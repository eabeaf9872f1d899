use Rattle.std.proofs.Common.{◌≡◌, ◌++◌, ℕ, List, [], ◌∙◌, refl, ap, append_assoc, append-nil}
use Rattle.std.specs.Prelude.{decimal, codes}
use Rattle.std.specs.List.{flat_map}
use Rattle.std.proofs.lemmas.Result.{IfOk-weaker}
use Rattle.std.proofs.lemmas.List.Elements.{same_from_all_zip}
use Rattle.tal_include.specs.Includes.{include_kind_name}
use Rattle.tal_include.specs.Lines.{file_text, message_of}
use Rattle.tal_include.specs.declared.source_fault.SourceFault.{SourceFault}
use Rattle.tal_include.proofs.source_fault.SourceFault.message.Goals as goal

in_a_row : (a path space line c column d kind word : List ℕ)
    → a ++ (path ++ (space ++ (line ++ (c ++ (column ++ (d ++ (kind ++ (d ++ (word ++ [])))))))))
    ≡ a ++ (path ++ space) ++ line ++ c ++ column ++ d ++ kind ++ d ++ word
in_a_row a path space line c column d kind word = simp (append_assoc, append-nil) refl

-- the pieces are the message
pieces : (fault : SourceFault) (source path space line column kind word : List ℕ) → source ≡ codes "source "
    → path ++ space ≡ file_text fault.file → line ≡ decimal fault.line → column ≡ decimal fault.column
    → kind ≡ include_kind_name fault.kind → word ≡ fault.word.list
    → source ++ (path ++ (space ++ (line ++ (codes ":" ++ (column ++ (codes ": " ++ (kind ++ (codes ": " ++ (word ++ [])))))))))
    ≡ message_of fault
pieces fault source path space line column kind word a b c d e f =
    in_a_row source path space line (codes ":") column (codes ": ") kind word ∙ rw (a, b, c, d, e, f) refl

pub returns : goal.returns
returns c =
    let text =
    pieces c.args.self.now _ c.file_pieces.result.0.now c.file_pieces.result.1.now _ _ _ _ c.as_slice.ensures c.file_pieces.ensures
    (c.as_slice-2.ensures.value ∙ c.decimal.ensures ∙ ap decimal c.from.ensures)
    (c.as_slice-3.ensures.value ∙ c.decimal-2.ensures ∙ ap decimal c.from-2.ensures) c.kind_name.ensures c.as_slice-4.ensures in
    IfOk-weaker c.concat.result _ _
    (λ made clones. same_from_all_zip (λ x y. y ≡ x) _ made.items clones (λ x y e. e)
    ∙ ap (flat_map (λ piece. piece.now)) c.as_slice-5.ensures ∙ text)
    c.concat.ensures.ok
