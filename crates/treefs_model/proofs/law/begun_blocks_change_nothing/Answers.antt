use Rattle.treefs_model.specs.Places.{In}
use Rattle.treefs_model.proofs.Begun.{links_begin, places_begin, stays_begin}
use Rattle.treefs_model.proofs.law.begun_blocks_change_nothing.Goals as goal

pub returns-clause-places : goal.returns-clause-places
returns-clause-places c = λ T state new x t bytes made S fs covered held h done bare some i. places_begin T state new x t bytes made h done S fs bare (In covered) (In held) some i

pub returns-clause-offsets : goal.returns-clause-offsets
returns-clause-offsets c = λ T state new x t bytes made S fs h done bare v. stays_begin T state new x t bytes made h done S fs bare v

pub returns-clause-links : goal.returns-clause-links
returns-clause-links c = λ T state new x t bytes made L N n h done table newest none v. links_begin T state new x t bytes made h done L N n table newest none v
