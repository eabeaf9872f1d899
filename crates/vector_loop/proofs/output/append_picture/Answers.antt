use Rattle.vector_loop.proofs.Common.{Err, arith, flat_map, picture_bytes, picture_row_of, range_with_len, rules, same-again, ◌+◌, ◌-◌, ◌∙◌, ◌≡◌}
use Rattle.screen_frame.specs.Ppm.{head_bytes}
use Rattle.vector_loop.proofs.Makings.{made-nothing, picture-parts, putting-cut, putting-more, rows-next}
use Rattle.vector_loop.proofs.output.append_picture.Goals as goal

pub returns-in_err-append_to : goal.returns-in_err-append_to
returns-in_err-append_to g c =
    let result : c.from_residual.result ≡ Err c.in_err-append_to.field-0.0 = search rules in
    rw result (putting-cut _ _ _ _ c.args.path.now picture_bytes picture_bytes (λ s. c.as_slice.result.now)
    (λ s. flat_map (picture_row_of c.palette-palette.result.colours s.picture) (range_with_len 0 (c.height-height.result - 0)))
    (λ s stands. picture-parts s c.width.result c.height-height.result c.palette-palette.result.colours c.as_slice.result.now
    (c.width.ensures ∙ (c.screen-screen.ensures.screen s stands.devices).width)
    (c.height-height.ensures ∙ (c.screen-screen.ensures.screen s stands.devices).height) (c.palette-palette.ensures s stands.devices)
    (◌∙◌ {c = head_bytes c.width.result c.height-height.result} c.as_slice.ensures.value c.ppm_head-head.ensures))
    (λ after answer made. made) _ c.in_err-append_to.ensures)

pub loop-y-init : goal.loop-y-init
loop-y-init g c = record {
  putting =
      putting-more _ _ _ _ c.args.path.now picture_bytes picture_bytes (λ s. c.as_slice.result.now)
      (λ s. flat_map (picture_row_of c.palette-palette.result.colours s.picture) (range_with_len 0 (c.height-height.result - 0)))
      (λ s stands. picture-parts s c.width.result c.height-height.result c.palette-palette.result.colours c.as_slice.result.now
      (c.width.ensures ∙ (c.screen-screen.ensures.screen s stands.devices).width)
      (c.height-height.ensures ∙ (c.screen-screen.ensures.screen s stands.devices).height) (c.palette-palette.ensures s stands.devices)
      (◌∙◌ {c = head_bytes c.width.result c.height-height.result} c.as_slice.ensures.value c.ppm_head-head.ensures))
      (λ after answer made. made) c.in_ok-append_to.ensures;
  same = c.in_ok-append_to.ensures.same;
  height = c.in_ok-append_to.ensures.height;
}

pub loop-y-preserved : goal.loop-y-preserved
loop-y-preserved g c = record {
  putting =
      putting-more _ _ _ _ c.args.path.now picture_bytes _ (λ s. picture_row_of c.palette-palette.result.colours s.picture c.loop-y.y)
      (λ s. flat_map (picture_row_of c.palette-palette.result.colours s.picture)
      (range_with_len (c.loop-y.y + 1) (c.height-height.result - (c.loop-y.y + 1))))
      (λ s stands. rows-next (picture_row_of c.palette-palette.result.colours s.picture) c.loop-y.y c.height-height.result c.loop-y-test.true)
      c.loop-y.invariant.putting c.in_ok-append_row.ensures;
  same = same-again _ _ _ _ c.loop-y.invariant.same c.in_ok-append_row.ensures.same;
  height = c.in_ok-append_row.ensures.height ∙ c.loop-y.invariant.height;
}

pub returns-in_err-append_row : goal.returns-in_err-append_row
returns-in_err-append_row g c =
    let result : c.from_residual-in_err-append_row.result ≡ Err c.in_err-append_row.field-0.0 = search rules in
    rw result (putting-cut _ _ _ _ c.args.path.now picture_bytes _ (λ s. picture_row_of c.palette-palette.result.colours s.picture c.loop-y.y)
    (λ s. flat_map (picture_row_of c.palette-palette.result.colours s.picture)
    (range_with_len (c.loop-y.y + 1) (c.height-height.result - (c.loop-y.y + 1))))
    (λ s stands. rows-next (picture_row_of c.palette-palette.result.colours s.picture) c.loop-y.y c.height-height.result c.loop-y-test.true)
    c.loop-y.invariant.putting _ c.in_err-append_row.ensures)

pub returns : goal.returns
returns g c =
    let none : c.height-height.result - c.loop-y.y ≡ 0 = omega (arith, c.loop-y-test.false) in
    rw none at c.loop-y.invariant.putting _ _ (made-nothing _ _)
