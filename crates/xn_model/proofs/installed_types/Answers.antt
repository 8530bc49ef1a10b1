use Rattle.xn_model.proofs.Install.{installed_own, installed_others}
use Rattle.xn_model.proofs.installed_types.Goals as goal

pub returns-clause-own : goal.returns-clause-own
returns-clause-own c = λ L state new bytes made h whole e. installed_own L state h bytes whole made new e

pub returns-clause-others : goal.returns-clause-others
returns-clause-others c = λ L state new bytes made t h whole e ne. installed_others L state h bytes whole made new e t ne
