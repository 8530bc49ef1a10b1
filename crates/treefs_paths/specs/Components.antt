-- The last name of a path.
--     IsParted         a path parts into what stands before its last name, that name, and the slashes behind it
use Rattle.std.specs.Prelude.{◌≡◌, ◌≢◌, ℕ, ◌-◌, ◌<◌, All, List, ◌++◌, length, slice_index}

-- 47 is a slash
pub record IsParted (path before name behind : List ℕ) : Type 0 where
  pub whole : path ≡ before ++ (name ++ behind)
  pub no_slash : All (λ byte. byte ≢ 47) name
  pub slashes : All (λ byte. byte ≡ 47) behind
  -- what stands before the name is empty, or ends with a slash
  pub apart : 0 < length before → slice_index before (length before - 1) ≡ 47
  -- only a path of slashes alone has no name
  pub named : length name ≡ 0 → length before ≡ 0
