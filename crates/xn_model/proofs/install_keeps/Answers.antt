use Rattle.xn_model.proofs.Install.{install_keeps}
use Rattle.xn_model.proofs.install_keeps.Goals as goal

pub returns : goal.returns
returns c = λ L state new bytes made h whole e. install_keeps L state h bytes whole made new e
