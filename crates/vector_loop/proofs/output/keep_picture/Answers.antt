use Rattle.vector_loop.proofs.output.keep_picture.Goals as goal

pub returns-in-Some : goal.returns-in-Some
returns-in-Some g c = rw c.in-Some.is c.append_picture.ensures
