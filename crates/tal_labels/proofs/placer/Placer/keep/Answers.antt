use Rattle.tal_labels.proofs.Common.{◌≡◌, length, refl, arith}
use Rattle.tal_labels.proofs.placer.Placer.keep.Goals as goal

pub next_top-self-requires : goal.next_top-self-requires
next_top-self-requires c = c.requires.within

pub returns-clause-ok : goal.returns-clause-ok
returns-clause-ok c = rw (← c.requires.here) (record {
  words = rw (c.close.ensures, c.match_brace-opener.ensures.value, c.reserve-2.ensures.items, c.push_reserved.ensures.items, c.reserve.ensures.items) refl;
  labels = c.in_ok-define.ensures.ok;
  openers = (let at : c.len-at.result ≡ length c.args.self.now.words.items = omega arith in rw (c.match_brace-opener.ensures.rest, c.reserve-2.ensures.items, at) refl);
  scope = rw c.requires.read c.after-self.ensures;
  address = λ low short. c.next_address-self.ensures.value (omega arith) short;
  small = λ short. c.next_address-self.ensures.small short;
  top = c.next_top-self.ensures;
})
