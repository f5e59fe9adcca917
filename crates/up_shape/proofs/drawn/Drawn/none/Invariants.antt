use Rattle.up_shape.proofs.drawn.Drawn.none.Given as goal

abbrev pub ghost-picked : goal.ghost-picked
ghost-picked call = 0
