-- Laws: what is held after many moments, and that going back gives the memory of an earlier moment.
use Rattle.std.specs.Prelude.{◌≡◌, ℕ, ◌+◌, ◌<◌, false, List, [], ◌∷◌, length, take, map, Some, slice_get, slice_index}
use Rattle.uxn_opcodes.specs.declared.Core.{Core}
use Rattle.uxn_undo.specs.declared.span.Span.{Span}
use Rattle.uxn_undo.specs.Spans.{covers}
use Rattle.uxn_undo.specs.Changes.{instruction_span}
use Rattle.uxn_undo.specs.Kept.{Kept, kept_at, holding, byte_back}

-- a moment of a run: the machine, and the bytes stored in its ports
pub record GivenMoments : Type 0 where
  pub core : Core
  pub stored : List ℕ

abbrev pub kept_of : GivenMoments → Kept
kept_of given = kept_at given.core given.stored

-- bank 0 of two memories differs only within these addresses
abbrev pub DiffersWithin : Span → List ℕ → List ℕ → Type 0
DiffersWithin span before after = (at : ℕ) → at < 65536 → covers span at ≡ false → slice_index before at ≡ slice_index after at

-- moments in a row, the newest first, and the memory after them: each differs from the next one, and the newest from that memory,
-- only within the bytes that are kept for it
abbrev pub Follow : List GivenMoments → List ℕ → Type 0
Follow [] last = Unit {0}
Follow (given ∷ older) last = DiffersWithin (instruction_span given.core given.stored) given.core.memory last × Follow older given.core.memory

-- what holds one moment after another holds the newest of all of them, as many as there is room for
pub record HoldingLaw : Type 0 where
  pub none : holding [] ≡ []
  pub one_more : (given : List Kept) (kept : Kept) → holding (kept ∷ holding given) ≡ holding (kept ∷ given)
  pub newest : (given : List Kept) → holding given ≡ take (length (holding given)) given

-- where moments in a row are held, going back gives the byte of the memory of the moment gone to
abbrev pub GoingBackLaw : Type 0
GoingBackLaw = (given : List GivenMoments) (last : Core) (moment : GivenMoments) (back at : ℕ)
    → Follow given last.memory → back < length (holding (map kept_of given)) → slice_get given back ≡ Some moment → at < 65536
    → byte_back (take (back + 1) (holding (map kept_of given))) at (slice_index last.memory at) ≡ slice_index moment.core.memory at
