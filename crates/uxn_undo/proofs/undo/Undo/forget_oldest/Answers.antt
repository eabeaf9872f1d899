use Rattle.std.proofs.Common.{rules}
use Rattle.uxn_undo.proofs.Common.{◌-◌, length, sym, arith, vec_len, vec_capacity}
use Rattle.std.proofs.lemmas.Option.{slice_get_cases}
use Rattle.uxn_undo.proofs.Joined.{length_held, forgotten, forgotten-rings}
use Rattle.uxn_undo.proofs.Slots.{fewer_slots}
use Rattle.uxn_undo.proofs.undo.Undo.forget_oldest.Goals as goal

pub returns-in_default : goal.returns-in_default
returns-in_default = search (arith, rules, length_held, slice_get_cases)

pub overflow_sub-bytes : goal.overflow_sub-bytes
overflow_sub-bytes c =
    let done = forgotten c.self.inside.rows.items c.self.inside.records.items c.self.inside.bytes.items c.in-Some.oldest.now c.self.invariant.0.filled
    (sym c.in-Some.ensures) in
    omega (arith, done.fits, c.len-bytes.ensures.len)

pub invariant_of-self : goal.invariant_of-self
invariant_of-self c =
    let inside = c.self.inside in
    let records = inside.records.items in
    let held = length_held inside.rows.items records inside.bytes.items c.args.self.now c.self.view_is in
    rw (c.truncate_back-2.ensures, c.truncate_back.ensures, c.len-records.ensures.len, c.len-bytes.ensures.len, c.from-count.ensures) (
      forgotten-rings inside.rows.items inside.records inside.bytes c.in-Some.oldest.now c.self.invariant.0 (sym c.in-Some.ensures),
      fewer_slots (length records - 1) (vec_len inside.rows) (vec_capacity inside.rows) inside.next records (omega (arith, held, c.requires))
          c.self.invariant.1,
    )

pub returns : goal.returns
returns c =
    let done = forgotten c.self.inside.rows.items c.self.inside.records.items c.self.inside.bytes.items c.in-Some.oldest.now c.self.invariant.0.filled
    (sym c.in-Some.ensures) in
    rw (
      c.truncate_back-2.ensures,
      c.truncate_back.ensures,
      c.len-records.ensures.len,
      c.len-bytes.ensures.len,
      c.from-count.ensures,
      ← c.self.view_is,
    ) done.moments
