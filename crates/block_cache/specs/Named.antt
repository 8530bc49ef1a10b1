-- Which places of a catalogue name a template.
--     places_named m        those of the catalogue in block 0's bytes
--     names_type named u    the type is built in, or its place names its template
use Rattle.std.specs.Prelude.{ℕ, ◌-◌, Bool, false, not, ◌&&◌, ◌||◌, ◌==◌, nat_lt, List, map, slice_index_or}
use Rattle.std.specs.List.{range_with_len}
use Rattle.xn_model.specs.Root.{pointer}

unfoldable pub places_named : List ℕ → List Bool
places_named m = map (λ i. not (pointer m i == 0)) (range_with_len 0 16)

abbrev pub names_type : List Bool → ℕ → Bool
names_type named u = nat_lt u 3 || (nat_lt u 19 && slice_index_or named (u - 3) false)
