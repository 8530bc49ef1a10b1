use Rattle.std.proofs.Common.{◌∙◌, Some, ap, sym, string_bytes}
use Rattle.xnsim_line.specs.Files.{held_in}
use Rattle.player.proofs.HeldFiles.{read_held, read_back}
use Rattle.player.proofs.memory.MemoryFiles.read.Goals as goal

pub returns : goal.returns
returns c =
    let files = c.args.self.now.files.items in
    let there = read_held (λ file. string_bytes file.name) (λ file. file.bytes.items) files c.in_ok-place.place c.index-file.result.now c.args.name.now (sym c.place_of.ensures ∙ c.in_ok-place.was) in
    read_back (λ v. v.items) c.from_slice.result c.ok.result (held_in (λ file. string_bytes file.name) (λ file. file.bytes.items) files) c.args.name.now c.as_slice.result.now c.ok.ensures.value c.from_slice.ensures.items
    (there ∙ ap Some (sym (c.as_slice.ensures.value ∙ ap (λ file. file.bytes.items) c.index-file.ensures)))
