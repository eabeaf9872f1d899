use Rattle.std.proofs.Common.{◌≡◌, ◌+◌, ℕ, List, take, drop, length, ap, sym, subst, ◌∙◌, arith}
use Rattle.std.specs.Result.{result_ok}
use Rattle.std.specs.Str.{bytes_eq}
use Rattle.std.proofs.lemmas.Slice.{between_to_end}
use Rattle.uxn_io_traits.specs.PathText.{path_of, IsLastSlash, HasNoSlashFrom}
use Rattle.uxn_io_traits.proofs.ComponentLemmas.{name_there, name_elsewhere, name_nowhere, one_name}
use Rattle.uxn_io_traits.proofs.paths.Path.name_in.Goals as goal
use Rattle.uxn_io_traits.proofs.paths.Path.name_in.Goals.{In-Some}

slash : (c : In-Some) → IsLastSlash c.args.self.now c.in-Some.at
slash c = let P = λ (text : List ℕ). IsLastSlash text c.in-Some.at in subst P c.bytes-text.ensures.text c.in-Some.ensures

pub returns-in-None-clause-name : goal.returns-in-None-clause-name
returns-in-None-clause-name c = let P = λ (text : List ℕ). HasNoSlashFrom text 0 in name_nowhere c.args.folder.now c.args.self.now (subst P c.bytes-text.ensures.text c.in-None.ensures)

read_tail : (c : goal.After-ok) → c.ok.result ≡ result_ok (path_of (drop (c.in-Some.at + 1) c.args.self.now))
read_tail c =
    let s = slash (goal.at.returns-then-eq-clause-name c).In-Some in
    let text = c.bytes-text.ensures.text in
    c.ok.ensures.value
    ∙ ap result_ok (c.read.ensures ∙ ap path_of (between_to_end c.bytes-text.result.now (c.in-Some.at + 1) (length c.bytes-text.result.now) (omega (arith, s.within, ap length text)) ∙ ap (λ (t : List ℕ). drop (c.in-Some.at + 1) t) text))

pub returns-then-eq-clause-name : goal.returns-then-eq-clause-name
returns-then-eq-clause-name c =
    let s = slash (goal.at.returns-then-eq-clause-name c).In-Some in
    read_tail c
    ∙ name_there c.args.folder.now c.args.self.now c.in-Some.at c.bytes-text.ensures.path s
    (sym c.if-eq.true ∙ c.eq.ensures ∙ (λ i. bytes_eq (take c.in-Some.at (c.bytes-text.ensures.text i)) (c.bytes.ensures.text i)))

pub returns-then-eq-clause-one : goal.returns-then-eq-clause-one
returns-then-eq-clause-one c =
    let s = slash (goal.at.returns-then-eq-clause-one c).In-Some in
    one_name c.args.self.now c.in-Some.at c.ok.result c.bytes-text.ensures.path s (read_tail c)

pub returns-else-eq-clause-name : goal.returns-else-eq-clause-name
returns-else-eq-clause-name c =
    let s = slash (goal.at.returns-else-eq-clause-name c).In-Some in
    name_elsewhere c.args.folder.now c.args.self.now c.in-Some.at c.bytes-text.ensures.path s
    (sym c.if-eq.false ∙ c.eq.ensures ∙ (λ i. bytes_eq (take c.in-Some.at (c.bytes-text.ensures.text i)) (c.bytes.ensures.text i)))
