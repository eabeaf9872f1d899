-- How traces that follow one another are joined.
use Rattle.std.specs.Prelude.{◌≡◌, List, ◌++◌}
use Rattle.std.proofs.Common.{ap, append_assoc, append-nil}
use Rattle.uxn_io_traits.specs.Outside.{Change}
use Rattle.vector_loop.specs.State.{State}
use Rattle.vector_loop.specs.Trace.{Trace, stays, followed_by}

-- traces of the same parts
joined : {moments moments_too : List State} {appends appends_too : List State} {changes changes_too : List Change}
    → moments ≡ moments_too → appends ≡ appends_too → changes ≡ changes_too → (last : State)
    → ◌≡◌ {A = Trace} (record { moments = moments; appends = appends; changes = changes; last = last })
    (record { moments = moments_too; appends = appends_too; changes = changes_too; last = last })
joined same_moments same_appends same_changes last =
    λ i. record { moments = same_moments i; appends = same_appends i; changes = same_changes i; last = last }

-- what comes after what comes after
pub followed_by-again : (first : Trace) (middle rest : State → Trace)
    → followed_by (followed_by first middle) rest ≡ followed_by first (λ s. followed_by (middle s) rest)
followed_by-again first middle rest =
    let next = middle first.last in
    let then = rest next.last in
    joined (append_assoc first.moments next.moments then.moments) (append_assoc first.appends next.appends then.appends)
    (append_assoc first.changes next.changes then.changes) then.last

-- what comes after depends on the last state alone
pub followed_by-at : (first : Trace) (a b : State → Trace) → a first.last ≡ b first.last → followed_by first a ≡ followed_by first b
followed_by-at first a b same =
    ap (λ (t : Trace). record {
      moments = first.moments ++ t.moments;
      appends = first.appends ++ t.appends;
      changes = first.changes ++ t.changes;
      last = t.last;
    }) same

-- a part and nothing more
pub stays-after : (part : Trace) → followed_by part stays ≡ part
stays-after part = joined (append-nil part.moments) (append-nil part.appends) (append-nil part.changes) part.last
