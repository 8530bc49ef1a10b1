-- The kinds of edits that leave the table as it is.
use Rattle.std.proofs.Common.{◌≡◌, ℕ, ◌<◌, ◌+◌, ◌⊎◌, Option, Some, None, refl, sym, ◌∙◌, ap, inl, inr, arith, subst}
use Rattle.std.specs.Prelude.{◌≢◌}
use Rattle.std.proofs.lemmas.Bool.{cases_eq}
use Rattle.xn_model.specs.Types.{Types}
use Rattle.xn_model.specs.Lives.{Lives}
use Rattle.ffs_model.specs.Cuts.{Choice, IsCut, IsFullAt, latest, seen}
use Rattle.ffs_model.proofs.ForCallers.{full_seen}
use Rattle.treefs_model.specs.Acts.{Act}
use Rattle.treefs_model.specs.Edited.{Edited, FullBehind, TakesIt}
use Rattle.treefs_model.specs.Links.{Counts, HasRoom, IsLed, IsLedFull, KeepsLinks, Layout, Less, Spare}
use Rattle.treefs_model.proofs.Links.{good_keeps, led_after, named_keeps, room_keeps}

-- What is full at a bucket with a record of n leads to n: so a link more may stand behind such a bucket too
pub leads_named : (L : Layout) (N : ℕ) (lives : Lives) (n b : ℕ) → KeepsLinks L N lives n → b < N → 0 < L.records n b (latest lives b) →
    ((k : Choice) → IsCut lives k → L.leaf (seen lives k) n ≢ 0 → L.leaf (seen lives k) n ≡ L.leaf (latest lives) n) → (k : Choice) → IsCut lives k → IsFullAt lives k b → IsLed L lives k n
leads_named L N lives n b v few some stable k cut full =
    let led = v.named k b cut few (subst (λ m. 0 < L.records n b m) (sym (full_seen lives k b full)) some) in
    record { some = led; same = stable k cut led }

module _ (T : Types) (L : Layout) (N : ℕ) (act : Act) (old new : Lives) (number : ℕ) (e : Edited T act old new number) (n : ℕ) where
  abbrev b : ℕ
  b = act.block

  abbrev i : ℕ
  i = L.leaf (latest old) n

  -- links of n's inode, where the edit leaves the block's
  pub same_links : L.links (latest new b) ≡ L.links (latest old b) → L.links (latest new i) ≡ L.links (latest old i)
  same_links same = elim (cases_eq i b) [ inl q ↦ ap (λ c. L.links (latest new c)) q ∙ (same ∙ ap (λ c. L.links (latest old c)) (sym q)) | inr ne ↦ ap L.links (e.others i ne) ]

  -- where n's inode in a cut that takes the edit is its block, the cut is full at it
  either : (x y : ℕ) → Counts L N act old new n x y → (k : Choice) → IsCut old k → TakesIt act old new k → L.leaf (seen old k) n ≢ 0 → (L.leaf (seen old k) n ≢ b) ⊎ IsLedFull L old k n
  either x y h k cut t some = elim (cases_eq (L.leaf (seen old k) n) b) [
    | inr ne ↦ inl ne
    | inl same ↦ let z = h.stable k cut some same in inr (record { led = record { some = some; same = same ∙ sym z }; full = subst (IsFullAt old k) (sym z) t.full })
  ]

  -- One that makes no record of n, and leaves the links: x records end
  module _ (x : ℕ) (h : Counts L N act old new n x 0) (same : L.links (latest new i) ≡ L.links (latest old i)) where
    pub room_stays : (g : Option ℕ) (m : ℕ) → HasRoom L N old g m n → HasRoom L N new g m n
    room_stays g m v = room_keeps T L N act old new number e n x 0 h g m v g m (let z = same in omega arith) (λ k t f. f) (λ k l far f f'. (omega arith, f'))

    pub links_stay : KeepsLinks L N old n → KeepsLinks L N new n
    links_stay v = record {
      named = named_keeps T L N act old new number e n x 0 h v.named (λ k cut t. inl refl);
      good = good_keeps T L N act old new number e n x 0 h None 0 v.tight v.good (let z = same in omega arith)
          (λ k cut t some. elim (either x 0 h k cut t some) [ inl ne ↦ inl (refl, ne) | inr z ↦ inr (z, tt) ]);
      tight = room_stays None 0 v.tight;
    }

    pub spare_stays : i ≢ b → (y : ℕ) → Spare L N old y n → Spare L N new y n
    spare_stays far y v = record {
      room = room_stays None 1 v.room;
      led = λ k cut full.
          let z = e.cuts k cut in
          let was = v.led k z.cut (z.full y full) in
          record { led = led_after T L N act old new number e n x 0 h k cut was.led; full = subst (IsFullAt new k) (sym h.table.newest) (z.still i far was.full) };
    }

  -- A record of n ends
  pub record_ends : Counts L N act old new n 1 0 → L.links (latest new b) ≡ L.links (latest old b) → KeepsLinks L N old n → KeepsLinks L N new n × Less L N new b n
  record_ends h same v = (
    links_stay 1 h (same_links same) v,
    room_keeps T L N act old new number e n 1 0 h None 0 v.tight (Some b) 1 (let z = same_links same in omega arith) (λ k t f. tt) (λ k l far f f'. absurd (l.short f)),
  )

  -- A link less, behind the block where a record ended
  pub link_less : Counts L N act old new n 0 0 → i ≡ b → (c : ℕ) → act.behind ≡ Some c → L.links (latest new b) + 1 ≡ L.links (latest old b) → KeepsLinks L N old n → Less L N old c n → KeepsLinks L N new n
  link_less h here c behind fewer v less = record {
    named = named_keeps T L N act old new number e n 0 0 h v.named (λ k cut t. inl refl);
    good = good_keeps T L N act old new number e n 0 0 h (Some c) 1 less v.good (omega (arith, enough))
        (λ k cut t some. elim (either 0 0 h k cut t some) [ inl ne ↦ inl (refl, ne) | inr z ↦ inr (z, at k t) ]);
    tight = room_keeps T L N act old new number e n 0 0 h (Some c) 1 less None 0 (omega (arith, enough)) (λ k t f. at k t) (λ k l far. absurd (far here));
  }
    where
      enough : L.links (latest new i) + 1 ≡ L.links (latest old i)
      enough = ap (λ j. L.links (latest new j) + 1) here ∙ (fewer ∙ ap (λ j. L.links (latest old j)) (sym here))

      at : (k : Choice) → TakesIt act old new k → FullBehind old k (Some c)
      at k t = subst (FullBehind old k) behind t.behind

  -- A link more, behind a block of which all cuts that are full lead to n
  pub link_more : Counts L N act old new n 0 0 → i ≡ b → ((k : Choice) → IsCut old k → FullBehind old k act.behind → IsLed L old k n) → L.links (latest new b) ≡ L.links (latest old b) + 1 → KeepsLinks L N old n →
      KeepsLinks L N new n × Spare L N new b n
  link_more h here leads more v = (
    record {
      named = named_keeps T L N act old new number e n 0 0 h v.named (λ k cut t. inl refl);
      good = good_keeps T L N act old new number e n 0 0 h None 0 v.tight v.good (omega (arith, enough))
          (λ k cut t some. elim (either 0 0 h k cut t some) [ inl ne ↦ inl (refl, ne) | inr z ↦ inr (z, tt) ]);
      tight = room_keeps T L N act old new number e n 0 0 h None 0 v.tight None 0 (omega (arith, enough)) (λ k t f. tt) (λ k l far. absurd (far here));
    },
    record {
      room = room_keeps T L N act old new number e n 0 0 h None 0 v.tight None 1 (omega (arith, enough)) (λ k t f. tt) (λ k l far. absurd (far here));
      led = λ k cut full. let z = e.cuts k cut in elim z.case [
        | inl t ↦ record { led = led_after T L N act old new number e n 0 0 h k cut (leads k z.cut t.behind); full = subst (IsFullAt new k) (sym (h.table.newest ∙ here)) full }
        | inr l ↦ absurd (l.short full)
      ];
    },
  )
    where
      enough : L.links (latest new i) ≡ L.links (latest old i) + 1
      enough = ap (λ j. L.links (latest new j)) here ∙ (more ∙ ap (λ j. L.links (latest old j) + 1) (sym here))

  -- A record of n is made, behind a block that lets it
  pub record_made : Counts L N act old new n 0 1 → L.links (latest new b) ≡ L.links (latest old b) → (y : ℕ) → act.behind ≡ Some y → KeepsLinks L N old n → Spare L N old y n → KeepsLinks L N new n
  record_made h same y behind v spare = record {
    named = named_keeps T L N act old new number e n 0 1 h v.named (λ k cut t. inr (at k cut t).led.some);
    good = good_keeps T L N act old new number e n 0 1 h None 1 spare.room v.good (let z = same_links same in omega arith) (λ k cut t some. inr (at k cut t, tt));
    tight = room_keeps T L N act old new number e n 0 1 h None 1 spare.room None 0 (let z = same_links same in omega arith) (λ k t f. tt) (λ k l far f f'. (omega arith, tt));
  }
    where
      at : (k : Choice) → IsCut old k → TakesIt act old new k → IsLedFull L old k n
      at k cut t = spare.led k cut (subst (FullBehind old k) behind t.behind)
