use Rattle.uxn_line.proofs.Common.{◌≡◌, Bool, true, false, ap, ◌∙◌, refl, is_none, is_some, next_pending, not, slice_get}
use Rattle.uxn_line.proofs.member.Member.give_next.Goals as goal

flipped : (some none : Bool) → some ≡ not none → none ≡ not some
flipped some true is = rw is refl
flipped some false is = rw is refl

pub returns : goal.returns
returns c =
    let items = c.args.self.now.ring.items in
    let byte = c.pop_front-byte.ensures.value in
    let last : c.is_none.result ≡ is_none (slice_get items 0) =
    flipped (is_some (slice_get items 0)) c.is_none.result (rw byte at c.is_none.ensures) in
    let given = rw (c.next_pending.ensures ∙ ap next_pending byte, last) at c.give.ensures in
    record {
      stands = λ place later member. given.stands place later (record { stands = member.stands; given = member.given; state = member.state });
      ring = rw c.pop_front-byte.ensures.items at given.ring;
      most = given.most;
      given = given.given;
    }
