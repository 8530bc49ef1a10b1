-- What a line has come to, where nothing was changed.
use Rattle.std.proofs.Common.{◌≡◌, refl}
use Rattle.tree_puts.specs.Lines.{LineState, Stays, StaysButTold, line_of}

pub none_but_told : (a : LineState) → StaysButTold a a
none_but_told a = ((refl, refl), refl, refl, (refl, refl))

pub none_changed : (a : LineState) → Stays a a
none_changed a = (none_but_told a, refl)

pub same_line : (a b : LineState) → Stays a b → b ≡ a
same_line a b stays =
    let types = stays.0.0.0 in
    let folder = stays.0.0.1 in
    let linked = stays.0.3.0 in
    let sources = stays.0.3.1 in
    let is : line_of b.types b.store b.folder b.volume b.told b.linked b.sources ≡ line_of a.types a.store a.folder a.volume a.told a.linked a.sources =
    cc (types, folder, linked, sources, stays.0.1, stays.0.2, stays.1) in
    is
