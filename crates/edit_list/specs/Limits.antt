-- The limits of an edit's patches.
use Rattle.std.specs.Prelude.{Bool, List, length, ◌&&◌, nat_lt, nat_le, sum_by}
use Rattle.std.specs.List.{list_all}
use Rattle.xn_model.specs.Calls.{Patch, is_patch}

abbrev pub are_within_limits : List Patch → Bool
are_within_limits patches =
    (nat_lt 0 (length patches) && nat_le (length patches) 8) && (list_all is_patch patches && nat_le (sum_by (λ p. length p.bytes) patches) 512)
