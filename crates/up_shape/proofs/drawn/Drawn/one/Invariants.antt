use Rattle.up_shape.proofs.drawn.Drawn.one.Given as goal

abbrev pub ghost-picked : goal.ghost-picked
ghost-picked call = 1
