use Rattle.std.proofs.Common.{rules, ◌≡◌, ◌∙◌, Some, true, ap, sym, string_bytes}
use Rattle.std.specs.Result.{is_ok}
use Rattle.player.specs.declared.memory.MemoryFile.{MemoryFile}
use Rattle.player.proofs.HeldFiles.{write_held}
use Rattle.player.proofs.memory.MemoryFiles.set.Goals as goal

pub returns : goal.returns
returns c = λ done i.
    let written : is_ok c.extend_from_slice.result ≡ true = sym c.is_ok.ensures.value ∙ done in
    let holds : c.extend_from_slice.new.self.items ≡ c.args.bytes.now = rw written at c.extend_from_slice.ensures.items ∙ search rules in
    let file : MemoryFile = record { name = c.index_mut-file.result.now.name; bytes = c.extend_from_slice.new.self; is_readable = c.index_mut-file.result.now.is_readable; is_writable = c.index_mut-file.result.now.is_writable } in
    Some (λ other. write_held (λ file. string_bytes file.name) (λ file. file.bytes.items) c.args.self.now.files.items c.in-Some.place file c.index_mut-file.result.now c.args.name.now c.args.bytes.now
    (sym c.place_of.ensures ∙ c.in-Some.is) (ap (λ file. string_bytes file.name) c.index_mut-file.ensures.value) holds other i)
