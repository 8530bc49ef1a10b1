-- Bytes put into a block, and patches one after another.
use Rattle.std.proofs.Common.{◌≡◌, ℕ, ◌+◌, ◌-◌, ◌<◌, ◌≤◌, List, [], ◌∷◌, ◌++◌, length, take, drop, get_or, refl, sym, ◌∙◌, ap, arith, ◌⊎◌, ⊎_elim, length-append, length-drop}
use Rattle.std.proofs.lemmas.List.{take_more, length-take-le, get_or_append_left, get_or-append_right, get_or-take, get_or-drop}
use Rattle.xn_model.specs.Lists.{put}
use Rattle.xn_model.specs.Calls.{Patch, patched}

-- what put leaves, where the bytes fit
module _ (m : List ℕ) (at : ℕ) (bytes : List ℕ) (fit : at + length bytes ≤ length m) where
  length-before : length (take at m) ≡ at
  length-before = length-take-le at m (omega arith)

  length-front : length (take at m ++ bytes) ≡ at + length bytes
  length-front = let before = length-before in length-append (take at m) bytes ∙ omega arith

  pub length-put : length (put m at bytes) ≡ length m
  length-put =
      let front = length-front in
      let rest = length-drop (at + length bytes) m in
      length-append (take at m ++ bytes) (drop (at + length bytes) m) ∙ omega arith

  pub put_inside : (k : ℕ) → at ≤ k → k < at + length bytes → get_or (put m at bytes) k 0 ≡ get_or bytes (k - at) 0
  put_inside k low high =
      let front = length-front in
      get_or_append_left (take at m ++ bytes) (drop (at + length bytes) m) 0 k (omega arith)
      ∙ get_or-append_right (take at m) bytes at k 0 length-before low

  put_before : (k : ℕ) → k < at → get_or (put m at bytes) k 0 ≡ get_or m k 0
  put_before k lt =
      let front = length-front in
      let before = length-before in
      get_or_append_left (take at m ++ bytes) (drop (at + length bytes) m) 0 k (omega arith)
      ∙ (get_or_append_left (take at m) bytes 0 k (omega arith) ∙ get_or-take at m k 0 lt)

  put_behind : (k : ℕ) → at + length bytes ≤ k → get_or (put m at bytes) k 0 ≡ get_or m k 0
  put_behind k le =
      let same : at + length bytes + (k - (at + length bytes)) ≡ k = omega arith in
      get_or-append_right (take at m ++ bytes) (drop (at + length bytes) m) (at + length bytes) k 0 length-front le
      ∙ (get_or-drop (at + length bytes) m (k - (at + length bytes)) 0 ∙ ap (λ j. get_or m j 0) same)

  pub put_outside : (k : ℕ) → (k < at) ⊎ (at + length bytes ≤ k) → get_or (put m at bytes) k 0 ≡ get_or m k 0
  put_outside k out = ⊎_elim (put_before k) (put_behind k) out

-- one more patch
patched-append : (m : List ℕ) (xs ys : List Patch) → patched m (xs ++ ys) ≡ patched (patched m xs) ys
patched-append m [] ys = refl
patched-append m (x ∷ xs) ys = patched-append (put m x.offset x.bytes) xs ys

pub patched_more : (m : List ℕ) (ps : List Patch) (i : ℕ) (p : Patch) → i < length ps → p ≡ get_or ps i p →
    patched m (take (i + 1) ps) ≡ put (patched m (take i ps)) p.offset p.bytes
patched_more m ps i p within is =
    ap (patched m) (take_more ps i p within ∙ ap (λ q. take i ps ++ q ∷ []) (sym is)) ∙ patched-append m (take i ps) (p ∷ [])
