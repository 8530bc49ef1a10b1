use Rattle.treefs_laws.proofs.ReadBack.{link_read_so, read_so, rest_so}
use Rattle.treefs_laws.proofs.law.reads_answer_the_files.Goals as goal

pub returns-clause-files : goal.returns-clause-files
returns-clause-files c = read_so

pub returns-clause-links : goal.returns-clause-links
returns-clause-links c = link_read_so

pub returns-clause-rest : goal.returns-clause-rest
returns-clause-rest c = rest_so
