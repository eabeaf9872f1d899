-- A file is read chunk after chunk.
use Rattle.std.proofs.lemmas.Grind.{common_steps}
use Rattle.std.proofs.Common.{◌≡◌, ℕ, ◌+◌, ◌<◌, ◌≤◌, List, length, take, drop, Option, Some, None, IfSome, sym, subst, ◌∙◌, arith}
use Rattle.std.proofs.lemmas.List.{length-take, length-append, length-drop, drop-drop}
use Rattle.std.proofs.Math.Seq.{take-add}
use Rattle.uxn_io_traits.specs.Files.{Nodes, file_bytes_at, file_bytes_from, GivesBytes}
use Rattle.uxn_memory.specs.Bytes.{with_bytes}
use Rattle.file_ports.specs.AnswersAction.{GivesPiece, PutsPrefix}
use Rattle.file_ports.proofs.MemoryLemmas.{with_more}

later_is : (bytes : List ℕ) (place done : ℕ) → drop (place + done) bytes ≡ drop done (drop place bytes)
later_is bytes place done = sym (drop-drop done place bytes)

-- what was taken, and then what was read behind it
piece_more : (old memory now piece rest later : List ℕ) (at done n : ℕ) → at ≤ length old → GivesPiece (take done rest) old at done memory
    → later ≡ drop done rest → n ≤ length later
    → piece ≡ take n later → now ≡ with_bytes memory (at + done) piece → GivesPiece (take (done + n) rest) old at (done + n) now
piece_more old memory now piece rest later at done n room so_far is within prefix put =
    grind (arith, common_steps, length-drop, length-take, take-add, with_more)

-- the same of the known contents of a tree
pub known_more : (contents contents_now : Option Nodes) (path old memory now piece before into : List ℕ) (place at done n from : ℕ) → at ≤ length old
    → from ≡ place + done → contents_now ≡ contents
    → IfSome contents (λ nodes. GivesPiece (take done (file_bytes_from nodes path place)) old at done memory)
    → IfSome contents_now (λ nodes. GivesBytes (file_bytes_from nodes path from) before into n)
    → piece ≡ take n into → now ≡ with_bytes memory (at + done) piece
    → IfSome contents (λ nodes. GivesPiece (take (done + n) (file_bytes_from nodes path place)) old at (done + n) now)
known_more None contents_now path old memory now piece before into place at done n from room is same so_far read prefix put = tt
known_more (Some nodes) contents_now path old memory now piece before into place at done n from room is same so_far read prefix put =
    let P : Option Nodes → Type 0 = λ o. IfSome o (λ nodes. GivesBytes (file_bytes_from nodes path from) before into n) in
    let Q : ℕ → Type 0 = λ m. GivesBytes (file_bytes_from nodes path m) before into n in
    let reads : GivesBytes (file_bytes_from nodes path (place + done)) before into n = subst Q is (subst P same read) in
    piece_more old memory now piece (file_bytes_from nodes path place) (file_bytes_from nodes path (place + done)) at done n room so_far (later_is (file_bytes_at nodes path) place done)
    reads.within (prefix ∙ reads.prefix) put

pub known_end : (contents contents_now : Option Nodes) (path old memory before into : List ℕ) (place at done n count from : ℕ) → from ≡ place + done
    → contents_now ≡ contents
    → IfSome contents (λ nodes. GivesPiece (take done (file_bytes_from nodes path place)) old at done memory)
    → IfSome contents_now (λ nodes. GivesBytes (file_bytes_from nodes path from) before into n)
    → n ≡ 0 → 0 < length before → done ≤ count
    → IfSome contents (λ nodes. GivesPiece (take count (file_bytes_from nodes path place)) old at done memory)
known_end = grind (arith, common_steps)

-- so many bytes were put in memory, whatever they are
pub record HasPut (before : List ℕ) (at done : ℕ) (now : List ℕ) : Type 0 where
  pub put : List ℕ
  pub count : length put ≡ done
  pub memory : now ≡ with_bytes before at put

pub put_more : (old memory now piece : List ℕ) (at done n : ℕ) → at ≤ length old → HasPut old at done memory → length piece ≡ n
    → now ≡ with_bytes memory (at + done) piece → HasPut old at (done + n) now
put_more old memory now piece at done n room so_far size put = grind (arith, common_steps, length-append, with_more)

-- nothing was put
pub puts_nothing : (contents : Option (List ℕ)) (most at : ℕ) (memory : List ℕ) → PutsPrefix contents most memory at memory
puts_nothing = grind (arith, common_steps)

-- at most so many, and so at most more
pub prefix_within : (contents : Option (List ℕ)) (most more at : ℕ) (before now : List ℕ) → most ≤ more → PutsPrefix contents most before at now
    → PutsPrefix contents more before at now
prefix_within contents most more at before now within prefix = grind (arith, common_steps)
