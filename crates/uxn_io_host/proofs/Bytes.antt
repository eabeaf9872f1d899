-- What known bytes are after a write, and after what kept them.
use Rattle.std.specs.Prelude.{ℕ, List, [], Option, Some, None}
use Rattle.std.specs.Io.KnownBytes.{Appends, Keeps}
use Rattle.std.proofs.Common.{sym, ◌∙◌}
use Rattle.std.proofs.lemmas.List.{append-nil}

pub appends_none : (known : Option (List ℕ)) → Appends known known []
appends_none None = tt
appends_none (Some bytes) = sym (append-nil bytes)

pub appends_kept : (before between now : Option (List ℕ)) (bytes : List ℕ) → Appends before between bytes → Keeps between now
    → Appends before now bytes
appends_kept None between now bytes appends keeps = tt
appends_kept (Some known) None now bytes appends keeps = absurd appends
appends_kept (Some known) (Some more) None bytes appends keeps = absurd keeps
appends_kept (Some known) (Some more) (Some last) bytes appends keeps = keeps ∙ appends
