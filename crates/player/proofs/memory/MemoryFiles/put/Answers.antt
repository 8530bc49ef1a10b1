use Rattle.std.proofs.Common.{rules, ◌≡◌, ◌∷◌, ◌∙◌, Some, true, ap, string_bytes}
use Rattle.player.specs.declared.memory.MemoryFile.{MemoryFile}
use Rattle.player.specs.Memory.{held_by}
use Rattle.player.proofs.HeldFiles.{put_held}
use Rattle.player.proofs.memory.MemoryFiles.put.Goals as goal

pub returns : goal.returns
returns c =
    let files = c.args.self.now.files.items in
    let file : MemoryFile = record { name = c.in_ok-from_str.field-0; bytes = c.in_ok-from_slice.field-0; is_readable = true; is_writable = true } in
    let more : c.insert.new.self.items ≡ file ∷ files = search rules in
    ap held_by more ∙ (λ i. Some (λ other. put_held (λ file. string_bytes file.name) (λ file. file.bytes.items) files file c.args.name.now c.args.bytes.now (search rules) (search rules) other i))
