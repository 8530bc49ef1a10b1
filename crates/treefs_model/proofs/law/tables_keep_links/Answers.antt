use Rattle.treefs_model.proofs.TableKinds.{inode_attached, inode_dropped}
use Rattle.treefs_model.proofs.law.tables_keep_links.Goals as goal

pub returns-clause-attached : goal.returns-clause-attached
returns-clause-attached c = λ T L N act old new number n i e within same h v. inode_attached T L N act old new number e within n same v i h

pub returns-clause-dropped : goal.returns-clause-dropped
returns-clause-dropped c = λ T L N act old new number n e within same h v. inode_dropped T L N act old new number e within n same v h
