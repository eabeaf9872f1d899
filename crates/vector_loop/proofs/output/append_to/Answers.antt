use Rattle.vector_loop.proofs.Makings.{appended, appended-still}
use Rattle.vector_loop.proofs.output.append_to.Goals as goal

pub returns : goal.returns
returns g c =
    appended _ _ _ c.args.path.now c.args.bytes.now _ c.append.ensures.ended
    (appended-still _ _ _ c.args.path.now c.args.bytes.now _ c.requires.there.outside c.append.ensures.stands)
    c.append.ensures.err c.append.ensures.some c.append.ensures.devices c.append.ensures.same
