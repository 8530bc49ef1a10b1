-- Bytes of a file that are written block after block, and what a write comes to.
use Rattle.std.proofs.Common.{◌≡◌, ◌≢◌, ℕ, ◌+◌, ◌-◌, ◌*◌, ◌/◌, ◌%◌, ◌<◌, ◌≤◌, Bool, true, false, List, ◌++◌, length, drop, take, get_or, replicate, Option, None, Some, Result, Ok, Err, refl, sym, ◌∙◌, ap, arith, subst, inl, inr, length-append, IfErr, IfOk, IfSome, is_some, min, nat_lt, if◌then◌else◌, get_or-drop, get_or-take, length-drop, length-take-le, le-ltb, lt-ltb, take-add}
use Rattle.ffs_lib.proofs.Common.{FfsFault, IsConsistent, StoreState, Types, byte_in, byte_of, cases_lt, drop-append-add, drop-append-le, drop-replicate}
use Rattle.ffs_lib.proofs.Common.{file_block, file_end, file_in, get_or-replicate, latest, length-replicate, mapped, most_bytes, take-append-le, take-replicate}
use Rattle.ffs_model.proofs.ForCallers.{given_later}
use Rattle.xn_model.proofs.ForCallers.{same_ok as same_run}
use Rattle.ffs_lookup.proofs.ForCallers.{same_ok}
use Rattle.ffs_lib.specs.Results.{WroteBytes, byte_written}
use Rattle.ffs_lib.specs.Steps.{Ends, Stage, Stops}
use Rattle.ffs_lib.specs.Orders.{made_by}
use Rattle.ffs_lib.specs.Orders as orders
use Rattle.ffs_lib.specs.WriteOrder.{adds_direct, after_at, data_at, data_parts, first_past, last_after, last_at, no_last, parts_at, places, parts_made, zeros_parts}
use Rattle.ffs_lib.specs.Writes.{EndsPart, IsBorder, LastGiven, MadeTo, PartStops, Parts, Puts, StopsPart, WaitsOn, padded}
use Rattle.ffs_lib.specs.declared.data.Last.{Last}
use Rattle.ffs_lib.specs.declared.data.Progress.{Progress}
use Rattle.ffs_lib.proofs.DataLaws.{puts_none, puts_on, puts_still}
use Rattle.ffs_lib.proofs.Waiting.{waits_same, waits_then}
use Rattle.ffs_lib.proofs.WriteParts.{border_place, data_are, data_last, not_place, places_next, places_none, run_next, zeros_are, zeros_last}
use Rattle.ffs_lib.proofs.Writing.{byte_there, cases_written, test_above, test_below, test_in, written_by}

pub never_some : (x : FfsFault) → ◌≡◌ {A = Option FfsFault} (Some x) None → ⊥
never_some x e = cc

-- zeros that stand there are as good as written
pub zeros_stand : (v : ℕ → List ℕ) (inode : List ℕ) (index at count : ℕ) → at + count ≤ 512 → ((k : ℕ) → at ≤ k → k < at + count → byte_in v (file_block v inode index) k ≡ 0) →
    (x : ℕ) → x < most_bytes → byte_of v inode x ≡ byte_written (byte_of v inode) (512 * index + at) (replicate count 0) x
zeros_stand v inode index at count fit none =
    let f : ℕ → ℕ → ℕ = λ i k. byte_in v (file_block v inode i) k in
    let bs : List ℕ = replicate count 0 in
    let long : length bs ≡ count = length-replicate {A = ℕ} count 0 in
    written_by f f index at bs (omega (arith, long, fit)) (λ i k low ne. refl)
    (λ k low. elim (cases_written at (length bs) k) [
      | inl lt ↦ sym (test_below (f index) at bs k lt)
      | inr (inl y) ↦
          none k y.0 (omega (arith, y.1, long)) ∙ (sym (get_or-replicate count (k - at) 0 0 (omega (arith, y.0, y.1, long))) ∙ sym (test_in (f index) at bs k y.0 y.1))
      | inr (inr ge) ↦ sym (test_above (f index) at bs k ge)
    ])

pub zeros_puts : (state : StoreState) (fs n : ℕ) (inode : List ℕ) → Ok inode ≡ file_in (latest state.lives) fs n → (index at count : ℕ) → at + count ≤ 512 → ((k : ℕ) → at ≤ k → k < at + count → byte_in (latest state.lives) (file_block (latest state.lives) inode index) k ≡ 0) →
    Puts state state fs n (512 * index + at) (replicate count 0)
zeros_puts state fs n inode is index at count fit none =
    let v = latest state.lives in
    record {
      wrote = λ other i.
          let wrote : WroteBytes v v fs n inode (512 * index + at) (replicate count 0) = record { after = inode; file = is; size = refl; marks = (refl, refl); each = zeros_stand v inode index at count fit none } in
          subst (λ (x : List ℕ). WroteBytes v v fs n x (512 * index + at) (replicate count 0)) (same_ok inode other (is ∙ sym i)) wrote;
      others = λ d ne. (refl, λ x i. (refl, λ at low. refl), λ some few. refl);
      later = omega arith;
    }

-- the next part
pub record PartMade (T : Types) (fs : ℕ) (old new : StoreState) (n end offset : ℕ) (bytes : List ℕ) (at : ℕ) (part : List ℕ) (last next : Last) : Type 0 where
  pub puts : Puts old new fs n (512 * (at / 512) + at % 512) part
  pub given : LastGiven new next
  pub made : made_by T fs (parts_at fs n offset bytes at (after_at end offset bytes at last)) old ≡ Ok new
  pub last_is : next ≡ last_at fs n end offset bytes at old new last
  pub kept : at + length part ≤ first_past end offset → next ≡ last
  pub waits : first_past end offset ≤ at → end < offset + length bytes → WaitsOn fs n old new last next

abbrev pub MakesPart : Types → ℕ → (ℕ → Option ℕ) → StoreState → StoreState → ℕ → ℕ → ℕ → List ℕ → ℕ → List ℕ → Last → Result Last FfsFault → Type 0
MakesPart T fs array old new n end offset bytes at part last result =
    Ends T fs array new result (PartMade T fs old new n end offset bytes at part last)
    (λ fault. StopsPart T fs (parts_at fs n offset bytes at (after_at end offset bytes at last)) old new n fault × (first_past end offset ≤ at → end < offset + length bytes → WaitsOn fs n old new last last))

-- of zeros, and of bytes, where one before the file's end keeps the last edits
pub zeros_make : (T : Types) (fs : ℕ) (array : ℕ → Option ℕ) (old new : StoreState) (n end offset : ℕ) (bytes : List ℕ) (at count : ℕ) (last : Last) (result : Result Last FfsFault) → min end offset ≤ at → at < offset → count ≡ min (offset - at) (512 - at % 512) →
    EndsPart T fs array (zeros_parts fs n (at / 512) (at % 512) count last.edit) old new n (at / 512) (at % 512) (replicate count 0) last result →
    MakesPart T fs array old new n end offset bytes at (replicate count 0) last result
zeros_make T fs array old new n end offset bytes at count last result low lt e x = go result x
  where
    never : at + length {A = ℕ} (replicate count 0) ≤ first_past end offset → ⊥
    never le =
        let size = length-replicate {A = ℕ} count 0 in
        let first : first_past end offset ≤ at = omega (arith, low, lt) in
        omega (arith, le, size, first, e, lt)

    same : zeros_parts fs n (at / 512) (at % 512) count last.edit ≡ parts_at fs n offset bytes at (after_at end offset bytes at last)
    same = ap (λ k. zeros_parts fs n (at / 512) (at % 512) k last.edit) e ∙ zeros_are T fs n end offset bytes at last lt

    go : (r : Result Last FfsFault) → EndsPart T fs array (zeros_parts fs n (at / 512) (at % 512) count last.edit) old new n (at / 512) (at % 512) (replicate count 0) last r →
        MakesPart T fs array old new n end offset bytes at (replicate count 0) last r
    go (Ok next) y = (
      y.0,
      record { puts = y.1.puts; given = y.1.given; made = subst (λ (p : orders.Parts). made_by T fs p old ≡ Ok new) same y.1.made; last_is = y.1.last_is ∙ zeros_last T fs n end offset bytes at last lt old new; kept = λ le. absurd (never le); waits = λ le grow. y.1.waits },
    )
    go (Err fault) y = (y.0, (y.1.0, (subst (λ (p : orders.Parts). StopsPart T fs p old new n fault) same y.1.1.0, λ le grow. y.1.1.1)))

pub last_given : (state : StoreState) (last : Last) (past : Bool) (mine : Last) → mine ≡ (if past then last else no_last) → LastGiven state last → LastGiven state mine
last_given state last past mine own given = subst (LastGiven state) (sym own) (go past)
  where
    go : (t : Bool) → LastGiven state (if t then last else no_last)
    go true = given
    go false = (refl, refl)

pub data_make : (T : Types) (fs : ℕ) (array : ℕ → Option ℕ) (old new : StoreState) (n end offset : ℕ) (bytes : List ℕ) (at : ℕ) (part : List ℕ) (last mine : Last) (past : Bool) (result kept : Result Last FfsFault) → offset ≤ at → part ≡ data_at offset bytes at →
    (first_past end offset ≤ at → end < offset + length bytes → end < at + length part) → nat_lt end (at + length part) ≡ past → mine ≡ (if past then last else no_last) → kept ≡ mapped (λ next. if past then next else last) result → LastGiven old last →
    EndsPart T fs array (data_parts fs n (at / 512) (at % 512) part mine.edit) old new n (at / 512) (at % 512) part mine result →
    MakesPart T fs array old new n end offset bytes at part last kept
data_make T fs array old new n end offset bytes at part last mine past result kept ge is reaches less own e given x = subst (MakesPart T fs array old new n end offset bytes at part last) (sym e) (go result x)
  where
    is_past : nat_lt end (at + length (data_at offset bytes at)) ≡ past
    is_past = ap (λ (m : List ℕ). nat_lt end (at + length m)) (sym is) ∙ less

    after : (t : Bool) → (if t then last else no_last).edit ≡ (if t then last.edit else None)
    after true = refl
    after false = refl

    same : data_parts fs n (at / 512) (at % 512) part mine.edit ≡ parts_at fs n offset bytes at (after_at end offset bytes at last)
    same =
        ap (λ (m : List ℕ). data_parts fs n (at / 512) (at % 512) m mine.edit) is
        ∙ (ap (data_parts fs n (at / 512) (at % 512) (data_at offset bytes at)) (ap (λ (l : Last). l.edit) own ∙ after past) ∙ data_are T fs n end offset bytes at last ge past is_past)

    lasts : (t : Bool) (next : Last) → next ≡ last_after (adds_direct (latest old.lives) fs n (at / 512)) old.next new.next (if t then last else no_last) →
        (if t then next else last) ≡ (if t then last_after (adds_direct (latest old.lives) fs n (at / 512)) old.next new.next last else last)
    lasts true next f = f
    lasts false next f = refl

    on : (next : Last) → WaitsOn fs n old new mine next → first_past end offset ≤ at → end < offset + length bytes → WaitsOn fs n old new last (if past then next else last)
    on next w le grow =
        let yes : past ≡ true = sym less ∙ lt-ltb end (at + length part) (reaches le grow) in
        subst (λ (t : Bool). WaitsOn fs n old new last (if t then next else last)) (sym yes) (subst (λ (l : Last). WaitsOn fs n old new l next) (own ∙ ap (λ (t : Bool). if t then last else no_last) yes) w)

    still_on : WaitsOn fs n old new mine mine → first_past end offset ≤ at → end < offset + length bytes → WaitsOn fs n old new last last
    still_on w le grow =
        let yes : past ≡ true = sym less ∙ lt-ltb end (at + length part) (reaches le grow) in
        subst (λ (l : Last). WaitsOn fs n old new l l) (own ∙ ap (λ (t : Bool). if t then last else no_last) yes) w

    stays : (next : Last) → at + length part ≤ first_past end offset → (if past then next else last) ≡ last
    stays next le =
        let before : at + length part ≤ end = omega (arith, le) in
        ap (λ (t : Bool). if t then next else last) (sym less ∙ le-ltb end (at + length part) before)

    still : (t : Bool) (next : Last) → old.next ≤ new.next → LastGiven new next → LastGiven new (if t then next else last)
    still true next later g = g
    still false next later g = (given_later old new later last.edit given.0, given_later old new later last.size given.1)

    go : (r : Result Last FfsFault) → EndsPart T fs array (data_parts fs n (at / 512) (at % 512) part mine.edit) old new n (at / 512) (at % 512) part mine r →
        MakesPart T fs array old new n end offset bytes at part last (mapped (λ next. if past then next else last) r)
    go (Ok next) y = (
      y.0,
      record {
        puts = y.1.puts;
        given = still past next y.1.puts.later y.1.given;
        made = subst (λ (p : orders.Parts). made_by T fs p old ≡ Ok new) same y.1.made;
        last_is = lasts past next (y.1.last_is ∙ ap (last_after (adds_direct (latest old.lives) fs n (at / 512)) old.next new.next) own) ∙ data_last T fs n end offset bytes at last ge past is_past old new;
        kept = stays next;
        waits = on next y.1.waits;
      },
    )
    go (Err fault) y = (y.0, (y.1.0, (subst (λ (p : orders.Parts). StopsPart T fs p old new n fault) same y.1.1.0, still_on y.1.1.1)))

module _ (T : Types) (fs : ℕ) (array : ℕ → Option ℕ) (zeroth first second : StoreState) (n end offset : ℕ) (bytes part : List ℕ) (progress next : Progress) (count : ℕ) (p : Parts T fs array zeroth first n end offset bytes progress) (none : progress.fault ≡ None)
    (fit : progress.done + count ≤ length (padded end offset bytes)) (some : progress.done < length (padded end offset bytes)) (is : part ≡ take count (drop progress.done (padded end offset bytes)))
    (edge : progress.done + count < length (padded end offset bytes) → IsBorder end offset (progress.done + count)) (more : 0 < count) (at : ℕ) (place : at ≡ min end offset + progress.done) (inner : (x : ℕ) → at < x → x < at + count → (x ≢ offset) × (x % 512 ≢ 0)) where
  abbrev pads : List ℕ
  pads = padded end offset bytes

  here : 512 * (at / 512) + at % 512 ≡ min end offset + length (take progress.done pads)
  here = let long : length (take progress.done pads) ≡ progress.done = length-take-le progress.done pads (omega (arith, fit)) in omega (arith, long, place)

  made_to : MadeTo T fs n end offset bytes zeroth progress.done first progress.last
  made_to = p.made none

  made_next : (last : Last) → PartMade T fs first second n end offset bytes at part progress.last last → MadeTo T fs n end offset bytes zeroth (progress.done + count) second last
  made_next last x =
      let start : ℕ = min end offset in
      let sum : at + count ≡ start + (progress.done + count) = omega (arith, place) in
      subst (λ (to : ℕ). parts_made T fs n end offset bytes (places start offset to) (zeroth, no_last) ≡ Ok (second, last)) sum
      (subst (λ (ys : List ℕ). parts_made T fs n end offset bytes ys (zeroth, no_last) ≡ Ok (second, last))
      (sym (places_next offset start at count (omega (arith, place)) more (border_place end offset progress.done at place (p.border some)) (λ x lo hi. let k = inner x lo hi in not_place offset x k.0 k.1)))
      (run_next T fs n end offset bytes (places start offset at) at (zeroth, no_last) first second progress.last last (subst (λ (to : ℕ). parts_made T fs n end offset bytes (places start offset to) (zeroth, no_last) ≡ Ok (first, progress.last)) (sym place) made_to) x.made x.last_is))

  calm_next : (last : Last) → PartMade T fs first second n end offset bytes at part progress.last last → min end offset + (progress.done + count) ≤ first_past end offset → last ≡ no_last
  calm_next last x le =
      let rest = length-drop progress.done pads in
      let size : length part ≡ count = ap (λ (xs : List ℕ). length xs) is ∙ length-take-le count (drop progress.done pads) (omega (arith, rest, fit)) in
      x.kept (omega (arith, size, place, le)) ∙ p.calm (omega (arith, le))

  waits_next : (last : Last) → Stage T fs array second → PartMade T fs first second n end offset bytes at part progress.last last → (there : StoreState × Last) → parts_made T fs n end offset bytes (places (min end offset) offset (first_past end offset)) (zeroth, no_last) ≡ Ok there →
      first_past end offset ≤ min end offset + (progress.done + count) → end < offset + length bytes → IsConsistent T there.0 × WaitsOn fs n there.0 second no_last last
  waits_next last stage x there made le grow = elim (cases_lt at (first_past end offset)) [
    | inr ge ↦
        let w = p.waits there made (omega (arith, ge, place)) grow in
        (w.0, waits_then fs n there.0 first second no_last progress.last last w.1 (x.waits ge grow))
    | inl lt ↦
        let block : first_past end offset ≡ 512 * (end / 512) = omega (arith, lt, place) in
        let even : 512 * (end / 512) % 512 ≡ 0 = omega arith in
        let sum : first_past end offset ≡ min end offset + (progress.done + count) = elim (cases_lt (first_past end offset) (at + count)) [
          | inl before ↦ absurd ((inner (first_past end offset) lt before).1 (ap (λ k. k % 512) block ∙ even))
          | inr ge ↦ omega (arith, ge, le, place)
        ] in
        let ran = ap (λ (to : ℕ). parts_made T fs n end offset bytes (places (min end offset) offset to) (zeroth, no_last)) sum ∙ made_next last x in
        let calm = calm_next last x (omega (arith, sum)) in
        subst (λ (y : StoreState × Last). IsConsistent T y.0 × WaitsOn fs n y.0 second no_last last) (same_run (second, last) there (sym ran ∙ made)) (stage.keeps.consistent, subst (λ (l : Last). WaitsOn fs n second second no_last l) (sym calm) (waits_same fs n second no_last))
  ]

  pub parts_by : (result : Result Last FfsFault) → MakesPart T fs array first second n end offset bytes at part progress.last result →
      IfOk result (λ last. next ≡ record { done = progress.done + count; last = last; fault = progress.fault }) → IfErr result (λ fault. next ≡ record { done = progress.done; last = progress.last; fault = Some fault }) →
      Parts T fs array zeroth second n end offset bytes next
  parts_by (Ok last) x ok err = subst (Parts T fs array zeroth second n end offset bytes) (sym ok) (record {
    stage = x.0;
    few = fit;
    border = edge;
    made = λ z. made_next last x.1;
    puts = subst (Puts zeroth second fs n (min end offset)) (ap (λ (m : List ℕ). take progress.done pads ++ m) is ∙ sym (take-add progress.done count pads))
        (puts_on zeroth first second fs n (min end offset) (take progress.done pads) part p.puts (subst (λ (k : ℕ). Puts first second fs n k part) here x.1.puts));
    calm = calm_next last x.1;
    waits = waits_next last x.0 x.1;
    given = x.1.given;
    ended = subst (λ (o : Option FfsFault). IfSome o (Stops (PartStops T fs zeroth second n end offset bytes (progress.done + count) last))) (sym none) tt;
  })
  parts_by (Err fault) x ok err = subst (Parts T fs array zeroth second n end offset bytes) (sym err) (record {
    stage = x.0;
    few = p.few;
    border = p.border;
    made = λ z. absurd (never_some fault z);
    puts = puts_still zeroth first second fs n (min end offset) (take progress.done pads) p.puts x.1.1.0.same;
    calm = p.calm;
    waits = λ there made le grow.
        let w = p.waits there made le grow in
        (w.0, waits_then fs n there.0 first second no_last progress.last progress.last w.1 (x.1.1.1 (omega (arith, le, place)) grow));
    given = (given_later first second x.1.1.0.same.later progress.last.edit p.given.0, given_later first second x.1.1.0.same.later progress.last.size p.given.1);
    ended = (
      x.1.0,
      record {
        low = some;
        border = p.border some;
        before = first;
        made = made_to;
        puts = p.puts;
        told = subst (λ (k : ℕ). StopsPart T fs (parts_at fs n offset bytes k (after_at end offset bytes k progress.last)) first second n fault) place x.1.1.0;
      },
    );
  })

pub parts_none : (T : Types) (fs : ℕ) (array : ℕ → Option ℕ) (state : StoreState) (n end offset : ℕ) (bytes : List ℕ) → Stage T fs array state →
    Parts T fs array state state n end offset bytes (record { done = 0; last = record { edit = None; size = None }; fault = None })
parts_none T fs array state n end offset bytes s = record {
  stage = s;
  few = omega arith;
  border = λ lt. inl refl;
  made = λ z.
      let start : ℕ = min end offset in
      let same : start + 0 ≡ start = omega arith in
      ap (λ (ys : List ℕ). parts_made T fs n end offset bytes ys (state, no_last)) (ap (places start offset) same ∙ places_none offset start);
  puts = puts_none state fs n (min end offset);
  calm = λ le. refl;
  waits = λ there made le grow.
      let start : ℕ = min end offset in
      let same : first_past end offset ≡ start = omega (arith, le) in
      let none = ap (λ (ys : List ℕ). parts_made T fs n end offset bytes ys (state, no_last)) (ap (places start offset) same ∙ places_none offset start) in
      subst (λ (y : StoreState × Last). IsConsistent T y.0 × WaitsOn fs n y.0 state no_last no_last) (same_run (state, no_last) there (sym none ∙ made)) (s.keeps.consistent, waits_same fs n state no_last);
  given = (refl, refl);
  ended = tt;
}

-- the next of the zeros, and of the bytes behind them
module _ (end offset : ℕ) (bytes : List ℕ) (done count : ℕ) where
  abbrev zeros : List ℕ
  zeros = replicate (offset - end) 0

  long : length zeros ≡ offset - end
  long = length-replicate {A = ℕ} (offset - end) 0

  pub padded_long : length (padded end offset bytes) ≡ (offset - end) + length bytes
  padded_long = let a = long in let b = length-append zeros bytes in omega (arith, a, b)

  pub zeros_next : done + count ≤ offset - end → replicate count 0 ≡ take count (drop done (padded end offset bytes))
  zeros_next fit =
      let rest = length-drop done zeros in
      sym (ap (take count) (drop-append-le done zeros bytes (omega (arith, long, fit)))
      ∙ (take-append-le count (drop done zeros) bytes (omega (arith, long, rest, fit)) ∙ (ap (take count) (drop-replicate done (offset - end) 0) ∙ take-replicate count (offset - end - done) 0 (omega (arith, fit)))))

  pub bytes_next : (from : ℕ) → done ≡ (offset - end) + from → take count (drop from bytes) ≡ take count (drop done (padded end offset bytes))
  bytes_next from e = let a = long in ap (take count) (sym (ap (λ k. drop k (zeros ++ bytes)) (e ∙ ap (λ k. k + from) (sym a)) ∙ drop-append-add zeros bytes from))

-- bytes of a block that are zeros
pub zeros_held : (v : ℕ → List ℕ) (block other at count k : ℕ) → other ≡ block → block ≢ 0 → take count (drop at (v block)) ≡ replicate count 0 → at ≤ k → k < at + count → byte_in v other k ≡ 0
zeros_held v block other at count k same there zeros lo hi =
    let i : ℕ = k - at in
    let low : i < count = omega (arith, lo, hi) in
    let sum : at + i ≡ k = omega (arith, lo) in
    let e : get_or (v block) k 0 ≡ 0 = ap (λ j. get_or (v block) j 0) (sym sum) ∙ (sym (get_or-drop at (v block) i 0) ∙ (sym (get_or-take count (drop at (v block)) i 0 low) ∙ (ap (λ (m : List ℕ). get_or m i 0) zeros ∙ get_or-replicate count i 0 0 low))) in
    ap (λ b. byte_in v b k) same ∙ (byte_there v block k there ∙ e)

pub zero_part : (m : List ℕ) (at count k : ℕ) → k ≡ count → at + count ≤ length m → take k (drop at m) ≡ replicate (length (take k (drop at m))) 0 → take count (drop at m) ≡ replicate count 0
zero_part m at count k e fit zeros =
    let long : length (take k (drop at m)) ≡ count = length-take-le k (drop at m) (omega (arith, length-drop at m, fit, e)) ∙ e in
    ap (λ j. take j (drop at m)) (sym e) ∙ (zeros ∙ ap (λ j. replicate j 0) long)

-- no fault
pub none_left : (o : Option FfsFault) (t : Bool) → t ≡ false → t ≡ is_some o → o ≡ None
none_left None t f e = refl
none_left (Some x) t f e = absurd (no (sym e ∙ f))
  where
    no : true ≡ false → ⊥
    no z = cc

-- look-ups that pass
pub end_found : (r : Result (List ℕ) FfsFault) (end : ℕ) → Ok end ≡ mapped file_end r → (inode : List ℕ) × (Ok inode ≡ r) × (file_end inode ≡ end)
end_found (Ok inode) end e = (inode, refl, cc)
end_found (Err fault) end e = absurd (cc e)
