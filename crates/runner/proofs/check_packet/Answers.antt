-- `runner::check_packet` meets its contract. Assumes nothing.
use Rattle.runner.proofs.Started.{value_refuses, packet_passes}
use Rattle.runner.proofs.check_packet.Goals as goal

pub returns-in-Some : goal.returns-in-Some
returns-in-Some c = search value_refuses

pub returns-in-None : goal.returns-in-None
returns-in-None c = search packet_passes
