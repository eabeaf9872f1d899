use Rattle.vector_loop.proofs.output.keep_samples.Goals as goal

pub returns-in-Some : goal.returns-in-Some
returns-in-Some g c = rw c.in-Some.is (rw c.put_samples.ensures at c.append_to.ensures)
