-- What a module that looks at each packet by itself stands for.
use Rattle.up_model.specs.Packet.{Flow}
use Rattle.up_shape.specs.Histories.{SaysWhetherFed}
use Rattle.up_shape.specs.declared.packetwise.Packetwise.{Packetwise}

-- what it does to one packet
abbrev pub step_of : {K F : Type 0} → Packetwise K F → K
step_of module_ = module_.step

-- it was fed this flow
abbrev pub StandsFor : {K F : Type 0} → Packetwise K F → Flow → Type 0
StandsFor module_ flow = SaysWhetherFed module_.fed flow
