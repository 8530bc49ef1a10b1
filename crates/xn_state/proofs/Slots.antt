-- Bytes of block 0 that are set, and set back.
use Rattle.std.proofs.Common.{◌≡◌, ℕ, ◌+◌, ◌*◌, ◌<◌, ◌≤◌, true, List, [], ◌∷◌, ◌++◌, length, take, drop, refl, sym, ◌∙◌, ap, arith}
use Rattle.std.specs.Prelude.{◌&&◌, nat_le, nat_lt}
use Rattle.std.specs.Int.{w32, to_le_bytes}
use Rattle.std.proofs.lemmas.Bool.{le-leb, lt-ltb}
use Rattle.xn_model.specs.Lists.{put}
use Rattle.xn_model.specs.Root.{with_pointer, with_slot}
use Rattle.xn_model.specs.Calls.{patched}
use Rattle.edit_list.proofs.ForCallers.{undone}

put_undone : (m : List ℕ) (at n : ℕ) (bytes : List ℕ) → length m ≡ 512 → length bytes ≡ n → 0 < n → at + n ≤ 512 →
    patched (put m at bytes) (record { offset = at; bytes = take n (drop at m) } ∷ []) ≡ m
put_undone m at n bytes long is some fits =
    let fit = ap (λ k. (nat_lt 0 k && nat_le (at + k) 512) && true) is ∙ (λ i. (lt-ltb 0 n some i && le-leb (at + n) 512 fits i) && true) in
    ap (λ k. patched (patched m (record { offset = at; bytes = bytes } ∷ [])) (record { offset = at; bytes = take k (drop at m) } ∷ [])) (sym is)
    ∙ undone m (record { offset = at; bytes = bytes } ∷ []) long fit

pub slot_undone : (m : List ℕ) (fs : ℕ) (p : ℕ × ℕ) → length m ≡ 512 → fs < 32 →
    patched (with_slot m fs p) (record { offset = 72 + 8 * fs; bytes = take 8 (drop (72 + 8 * fs) m) } ∷ []) ≡ m
unfolding with_slot
slot_undone m fs p long few = put_undone m (72 + 8 * fs) 8 (to_le_bytes w32 p.0 ++ to_le_bytes w32 p.1) long refl (omega arith) (omega (arith, few))

pub pointer_undone : (m : List ℕ) (place b : ℕ) → length m ≡ 512 → place < 16 →
    patched (with_pointer m place b) (record { offset = 8 + 4 * place; bytes = take 4 (drop (8 + 4 * place) m) } ∷ []) ≡ m
unfolding with_pointer
pointer_undone m place b long few = put_undone m (8 + 4 * place) 4 (to_le_bytes w32 b) long refl (omega arith) (omega (arith, few))
