use Rattle.std.proofs.Common.{ap, sym, ◌∙◌, Some, None}
use Rattle.std.proofs.lemmas.List.{append-nil}
use Rattle.std.proofs.lemmas.List.Elements.{All-push}
use Rattle.uxn_io_traits.specs.Children.{IsEntry}
use Rattle.uxn_io.proofs.InMemory.ChildLemmas.{listed_more}
use Rattle.uxn_io.proofs.memory.places.children.Goals as goal
use Rattle.uxn_io.proofs.memory.places.children.Goals.{in-Some+in_ok-push, in_default}

pub loop-held-preserved : goal.loop-held-preserved
loop-held-preserved c =
    elim c.match-entry_in.branch [
      | in-Some+in_ok-push w ↦
          let grown = ap (λ v. v.items) w.entries-is ∙ w.in_ok-push.ensures.items in
          record {
            listed = listed_more c.args.folder.now c.args.used.now c.loop-held.held-index c.held-item.result c.loop-held.entries.items _ (Some w.in-Some.entry) c.loop-held-test.true c.held-item.is (sym w.in-Some.is ∙ c.entry_in.ensures.entry) grown ∙ c.loop-held.invariant.listed;
            entries = rw grown (All-push IsEntry c.loop-held.entries.items w.in-Some.entry c.loop-held.invariant.entries w.in-Some.ensures.is_entry);
          }
      | in_default w ↦
          let same = ap (λ v. v.items) w.entries-is in
          record {
            listed = listed_more c.args.folder.now c.args.used.now c.loop-held.held-index c.held-item.result c.loop-held.entries.items _ None c.loop-held-test.true c.held-item.is (sym w.in_default.is ∙ c.entry_in.ensures.entry) (same ∙ sym (append-nil c.loop-held.entries.items)) ∙ c.loop-held.invariant.listed;
            entries = rw same c.loop-held.invariant.entries;
          }
    ]
