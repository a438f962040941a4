use Rattle.depth_windows.proofs.widened.Goals as goal

pub returns-in-Some : goal.returns-in-Some
returns-in-Some c = rw (c.in-Some.is, c.new.ensures.0, c.new.ensures.1)

pub returns-in-None : goal.returns-in-None
returns-in-None c = rw (c.in-None.is, c.new-in-None.ensures.0, c.new-in-None.ensures.1)
