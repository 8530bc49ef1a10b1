-- An edit that leaves the table as it is keeps the links of a number.
use Rattle.std.proofs.Common.{◌≡◌, ℕ, ◌+◌, ◌<◌, ◌≤◌, ◌⊎◌, Option, Some, None, sym, ◌∙◌, ap, inl, inr, arith, subst}
use Rattle.std.specs.Prelude.{◌≢◌, max}
use Rattle.std.proofs.lemmas.Bool.{cases_eq}
use Rattle.xn_model.specs.Types.{Types}
use Rattle.xn_model.specs.Lives.{Lives}
use Rattle.ffs_model.specs.Cuts.{Choice, IsCut, IsFullAt, latest, seen}
use Rattle.ffs_model.proofs.ForCallers.{full_seen}
use Rattle.treefs_model.specs.Acts.{Act}
use Rattle.treefs_model.specs.Edited.{Edited, FullBehind, LeavesIt, TakesIt}
use Rattle.treefs_model.specs.Links.{Counts, HasRoom, IsGood, IsLed, IsLedFull, IsNamed, Layout, most_records, seen_records, total}
use Rattle.treefs_model.proofs.Total.{total_at, total_le}

pub behind_before : (old new : Lives) (k : Choice) (g : Option ℕ) → ((c : ℕ) → IsFullAt new k c → IsFullAt old k c) → FullBehind new k g → FullBehind old k g
behind_before old new k None f g = tt
behind_before old new k (Some c) f g = f c g

module _ (T : Types) (L : Layout) (N : ℕ) (act : Act) (old new : Lives) (number : ℕ) (e : Edited T act old new number) (n x y : ℕ) (h : Counts L N act old new n x y) where
  abbrev b : ℕ
  b = act.block

  -- n's inode, and its links before and after
  abbrev i : ℕ
  i = L.leaf (latest old) n

  abbrev links : Lives → ℕ
  links lives = L.links (latest lives i)

  -- a cut that takes it: newest in the block, before and after
  seen_here : (k : Choice) → TakesIt act old new k → (seen new k b ≡ latest new b) × (seen old k b ≡ latest old b)
  seen_here k t = (full_seen new k b t.all, full_seen old k b t.full)

  records_here : (k : Choice) → TakesIt act old new k → L.records n b (seen new k b) + x ≤ L.records n b (seen old k b) + y
  records_here k t =
      let s = seen_here k t in
      let one = ap (L.records n b) s.0 in
      let two = ap (L.records n b) s.1 in
      let r = h.records in
      omega arith

  -- its sums
  seen_sum : (k : Choice) → TakesIt act old new k → seen_records L N new k n + x ≤ seen_records L N old k n + y
  seen_sum k t = total_at N b (λ c. L.records n c (seen new k c)) (λ c. L.records n c (seen old k c)) x y h.within
      (λ c ne. let same = ap (L.records n c) (t.others c ne) in omega arith) (records_here k t)

  most_sum : (k : Choice) → TakesIt act old new k → most_records L N new k n + x ≤ most_records L N old k n + y
  most_sum k t = total_at N b (λ c. max (L.records n c (seen new k c)) (L.records n c (latest new c))) (λ c. max (L.records n c (seen old k c)) (L.records n c (latest old c))) x y h.within
      (λ c ne. let one = ap (L.records n c) (t.others c ne) in let two = ap (L.records n c) (e.others c ne) in omega arith)
      (let s = seen_here k t in let one = ap (L.records n b) s.0 in let two = ap (L.records n b) s.1 in let r = h.records in omega arith)

  seen_most : (k : Choice) → seen_records L N old k n ≤ most_records L N old k n
  seen_most k = total_le N (λ c. L.records n c (seen old k c)) (λ c. max (L.records n c (seen old k c)) (L.records n c (latest old c))) (λ c lt. omega arith)

  -- and those of one that does not
  most_left : (k : Choice) → LeavesIt act old new k → most_records L N new k n ≤ most_records L N old k n + y
  most_left k l =
      let r = h.records in
      let sum = total_at N b (λ c. max (L.records n c (seen new k c)) (L.records n c (latest new c))) (λ c. max (L.records n c (seen old k c)) (L.records n c (latest old c))) 0 y h.within
      (λ c ne. let one = ap (λ z. L.records n c (z c)) l.same in let two = ap (L.records n c) (e.others c ne) in omega arith)
      (let one = ap (λ z. L.records n b (z b)) l.same in omega arith) in
      omega arith

  -- what it leads to is as before
  led_before : (k : Choice) → IsCut new k → ((c : ℕ) → IsFullAt new k c → IsFullAt old k c) → IsLedFull L new k n → IsLedFull L old k n
  led_before k cut full z = record {
    led = record { some = λ q. z.led.some (h.table.cuts k cut ∙ q); same = sym (h.table.cuts k cut) ∙ (z.led.same ∙ h.table.newest) };
    full = full i (subst (IsFullAt new k) h.table.newest z.full);
  }

  pub led_after : (k : Choice) → IsCut new k → IsLed L old k n → IsLed L new k n
  led_after k cut z = record { some = λ q. z.some (sym (h.table.cuts k cut) ∙ q); same = h.table.cuts k cut ∙ (z.same ∙ sym h.table.newest) }

  -- m' links to spare, where there were m
  module _ (g : Option ℕ) (m : ℕ) (v : HasRoom L N old g m n) where
    pub room_keeps : (g' : Option ℕ) (m' : ℕ) → links old + y + m' ≤ links new + m + x →
        ((k : Choice) → TakesIt act old new k → FullBehind old k g' → FullBehind old k g) →
        ((k : Choice) → LeavesIt act old new k → i ≢ b → FullBehind new k g' → FullBehind old k g' → (y + m' ≤ m) × FullBehind old k g) →
        HasRoom L N new g' m' n
    room_keeps g' m' enough taken untaken k cut led guard =
        let z = e.cuts k cut in
        let was = led_before k cut z.full led in
        let guard' = behind_before old new k g' z.full guard in
        subst (λ c. most_records L N new k n + m' ≤ L.links (latest new c)) (sym h.table.newest) (elim z.case [
          | inl t ↦
              let before = v k z.cut was (taken k t guard') in
              let sum = most_sum k t in
              omega arith
          | inr l ↦
              let far : i ≢ b = λ q. l.short (subst (IsFullAt new k) (h.table.newest ∙ q) led.full) in
              let u = untaken k l far guard guard' in
              let before = v k z.cut was u.1 in
              let sum = most_left k l in
              let fewer = u.0 in
              let same : links new ≡ links old = ap L.links (e.others i far) in
              omega arith
        ])

    pub good_keeps : IsGood L N old n → links old + y ≤ links new + m + x →
        ((k : Choice) → IsCut old k → TakesIt act old new k → L.leaf (seen old k) n ≢ 0 → ((y ≡ 0) × (L.leaf (seen old k) n ≢ b)) ⊎ (IsLedFull L old k n × FullBehind old k g)) →
        IsGood L N new n
    good_keeps good enough follows k cut led =
        let z = e.cuts k cut in
        let same = h.table.cuts k cut in
        let j : ℕ = L.leaf (seen old k) n in
        let led' : j ≢ 0 = λ q. led (same ∙ q) in
        subst (λ c. seen_records L N new k n ≤ L.links (seen new k c)) (sym same) (elim z.case [
          | inr l ↦ subst (λ w. total N (λ c. L.records n c (w c)) ≤ L.links (w j)) (sym l.same) (good k z.cut led')
          | inl t ↦ elim (follows k z.cut t led') [
            | inl far ↦
                let sum = seen_sum k t in
                let was = good k z.cut led' in
                let at = ap L.links (t.others j far.1) in
                let no_more = far.0 in
                omega arith
            | inr full ↦
                let sum = seen_sum k t in
                let most = seen_most k in
                let was = v k z.cut full.0 full.1 in
                let at : L.links (seen new k j) ≡ links new = ap L.links (now k t full.0) in
                omega arith
          ]
        ])
      where
        -- full at n's inode
        now : (k : Choice) → TakesIt act old new k → IsLedFull L old k n → seen new k (L.leaf (seen old k) n) ≡ latest new i
        now k t z = ap (seen new k) z.led.same ∙ elim (cases_eq i b) [
          | inl q ↦ ap (seen new k) q ∙ ((seen_here k t).0 ∙ ap (latest new) (sym q))
          | inr ne ↦ t.others i ne ∙ (full_seen old k i z.full ∙ sym (e.others i ne))
        ]

  pub named_keeps : IsNamed L N old n → ((k : Choice) → IsCut old k → TakesIt act old new k → (y ≡ 0) ⊎ (L.leaf (seen old k) n ≢ 0)) → IsNamed L N new n
  named_keeps named led k c cut few some zero =
      let z = e.cuts k cut in
      let none : L.leaf (seen old k) n ≡ 0 = sym (h.table.cuts k cut) ∙ zero in
      elim z.case [
        | inr l ↦ named k c z.cut few (subst (λ w. 0 < L.records n c (w c)) l.same some) none
        | inl t ↦ elim (led k z.cut t) [
          | inr there ↦ there none
          | inl no_more ↦ elim (cases_eq c b) [
            | inr ne ↦ named k c z.cut few (subst (λ w. 0 < L.records n c w) (t.others c ne) some) none
            | inl same ↦
                let r = records_here k t in
                let some' : 0 < L.records n b (seen new k b) = subst (λ d. 0 < L.records n d (seen new k d)) same some in
                named k b z.cut h.within (omega arith) none
          ]
        ]
      ]
