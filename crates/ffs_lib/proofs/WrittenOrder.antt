-- The edits of a write, in their order, by what its parts made and where they stopped.
use Rattle.std.proofs.Common.{◌≡◌, ◌≢◌, ℕ, ◌+◌, ◌-◌, ◌<◌, ◌≤◌, ◌⊎◌, Bool, true, false, List, [], ◌∷◌, length, Option, Some, None, Result, Ok, Err, refl, sym, ◌∙◌, ap, inl, inr, arith, subst, IfOk, IfSome, MatchResult, min, nat_lt, le-ltb, lt-ltb}
use Rattle.ffs_lib.proofs.Common.{FfsFault, IsConsistent, StoreState, Types, file_end, latest, word_at, write_in}
use Rattle.xn_model.proofs.ForCallers.{same_ok as same_run}
use Rattle.ffs_lookup.proofs.ForCallers.{same_ok}
use Rattle.ffs_lib.specs.Orders.{Acts}
use Rattle.ffs_lib.specs.Steps.{Stops}
use Rattle.ffs_lib.specs.WriteOrder.{SizeMade, SizeStops, StopsAtPart, StopsBefore, StopsThere, TakesUpTo, Where, WritesInOrder, WritesSomeInOrder, first_past, no_last, places, reached, size_action, parts_made, stops_at}
use Rattle.ffs_lib.specs.Writes.{MadeTo, PartStops, WaitsOn, padded}
use Rattle.ffs_lib.specs.declared.data.Last.{Last}
use Rattle.ffs_lib.specs.declared.data.Progress.{Progress}
use Rattle.ffs_lib.proofs.Parting.{padded_long}
use Rattle.ffs_lib.proofs.StagedWritten.{Begun, some_or_none, stops_there, stops_whole}
use Rattle.ffs_lib.proofs.Stopping.{acts_later}
use Rattle.ffs_lib.proofs.Undoing.{at_ok}
use Rattle.ffs_lib.proofs.ValueWritten.{looked}
use Rattle.ffs_lib.proofs.WriteParts.{places_none, tells_in}

-- where there are bytes
pub order_of : {A : Type 0} (T : Types) (fs n : ℕ) (inode : List ℕ) (offset : ℕ) (bytes : List ℕ) (old new : StoreState) (result : Result A FfsFault) → length bytes ≢ 0 →
    MatchResult result (λ x. MatchResult (reached T fs n inode offset bytes (offset + length bytes) old) (λ there. SizeMade T fs n (offset + length bytes) there.1 there.0 new) (λ refusal. ⊥))
    (λ fault. StopsThere T fs n inode offset bytes (stops_at T fs n inode offset bytes old new) old new) →
    WritesInOrder T fs n inode offset bytes old new result
order_of T fs n inode offset [] old new result some h = absurd (some refl)
order_of T fs n inode offset (byte ∷ rest) old new result some h = h

pub some_order_of : (T : Types) (fs n : ℕ) (inode : List ℕ) (offset : ℕ) (bytes : List ℕ) (old new : StoreState) (result : Result ℕ FfsFault) → length bytes ≢ 0 →
    MatchResult result (λ count. (count ≢ 0 → TakesUpTo T fs n inode offset bytes count old (λ last middle. SizeMade T fs n (offset + count) last middle new)) × (count ≡ 0 → StopsBefore T fs n inode offset bytes (stops_at T fs n inode offset bytes old new) old new))
    (λ fault. StopsBefore T fs n inode offset bytes (stops_at T fs n inode offset bytes old new) old new) → WritesSomeInOrder T fs n inode offset bytes old new result
some_order_of T fs n inode offset [] old new result some h = absurd (some refl)
some_order_of T fs n inode offset (byte ∷ rest) old new result some h = h

-- where there are none
pub order_none : {A : Type 0} (T : Types) (fs n : ℕ) (inode : List ℕ) (offset : ℕ) (bytes : List ℕ) (old : StoreState) (result : Result A FfsFault) → bytes ≡ [] → WritesInOrder T fs n inode offset bytes old old result
order_none {A} T fs n inode offset bytes old result none = subst (λ (m : List ℕ). WritesInOrder T fs n inode offset m old old result) (sym none) refl

pub some_order_none : (T : Types) (fs n : ℕ) (inode : List ℕ) (offset : ℕ) (bytes : List ℕ) (old : StoreState) (result : Result ℕ FfsFault) → bytes ≡ [] → WritesSomeInOrder T fs n inode offset bytes old old result
some_order_none T fs n inode offset bytes old result none = subst (λ (m : List ℕ). WritesSomeInOrder T fs n inode offset m old old result) (sym none) refl

-- no byte is taken
pub none_shows : (result : Result ℕ FfsFault) → IfOk result (λ count. count ≡ 0) → (P : ℕ → Type 0) → IfOk result (λ count. count ≢ 0 → P count)
none_shows (Ok count) none P = λ some. absurd (some none)
none_shows (Err fault) none P = tt

pub none_reached : (T : Types) (fs n : ℕ) (inode : List ℕ) (offset : ℕ) (bytes : List ℕ) (old : StoreState) (there : StoreState × Last) → bytes ≡ [] → file_end inode < offset + length bytes → reached T fs n inode offset bytes (first_past (file_end inode) offset) old ≡ Ok there → old ≡ there.0
none_reached T fs n inode offset bytes old there none grow made =
    let long = ap (λ (xs : List ℕ). length xs) none in
    let start : ℕ = min (file_end inode) offset in
    let same : first_past (file_end inode) offset ≡ start = omega (arith, long, grow) in
    let ran = ap (λ (ys : List ℕ). parts_made T fs n (file_end inode) offset bytes ys (old, no_last)) (ap (places start offset) same ∙ places_none offset start) in
    ap (λ (x : StoreState × Last). x.0) (same_run (old, no_last) there (sym ran ∙ made))

module _ (T : Types) (fs : ℕ) (array : ℕ → Option ℕ) (old middle : StoreState) (n end offset : ℕ) (bytes : List ℕ) (progress : Progress) (b : Begun T fs array old middle n end offset bytes progress) where
  abbrev inode : List ℕ
  inode = b.inode

  abbrev start : ℕ
  start = min (file_end inode) offset

  abbrev at : ℕ
  at = start + progress.done

  abbrev taken : ℕ
  taken = at - offset

  long : length (padded (file_end inode) offset bytes) ≡ (offset - file_end inode) + length bytes
  long = padded_long (file_end inode) offset bytes 0 0

  low : at ≤ offset + length bytes
  low = let few = b.first.few in let l = long in omega (arith, few, l)

  stopped_by : (fault : FfsFault) → progress.fault ≡ Some fault → PartStops T fs old middle n (file_end inode) offset bytes progress.done progress.last fault
  stopped_by fault e = (subst (λ (o : Option FfsFault). IfSome o (Stops (PartStops T fs old middle n (file_end inode) offset bytes progress.done progress.last))) e b.first.ended).1

  reached_to : (to : ℕ) → at ≡ to → (before : StoreState) → MadeTo T fs n (file_end inode) offset bytes old progress.done before progress.last → Ok (before, progress.last) ≡ reached T fs n inode offset bytes to old
  reached_to to e before made = sym (subst (λ (x : ℕ). parts_made T fs n (file_end inode) offset bytes (places start offset x) (old, no_last) ≡ Ok (before, progress.last)) e made)

  -- a part stops there, or the size
  abbrev PartOrSize : StoreState → StoreState × Last → Bool → Type 0
  PartOrSize new there t = Where t (StopsAtPart T fs n (file_end inode) offset bytes at there new) (SizeStops T fs n (offset + length bytes) there.1 there.0 new)

  part_there : (fault : FfsFault) → progress.fault ≡ Some fault → StopsThere T fs n inode offset bytes at old middle
  part_there fault e =
      let k = stopped_by fault e in
      at_ok (reached T fs n inode offset bytes at old) (k.before, progress.last) (λ there. PartOrSize middle there (nat_lt at (offset + length bytes))) (reached_to at refl k.before k.made)
      (subst (PartOrSize middle (k.before, progress.last)) (sym (lt-ltb at (offset + length bytes) (omega (arith, k.low, long)))) (tells_in T fs _ k.before middle fault k.told.told))

  size_there : progress.fault ≡ None → (new : StoreState) → SizeStops T fs n (offset + length bytes) progress.last middle new → StopsThere T fs n inode offset bytes at old new
  size_there none new stops =
      at_ok (reached T fs n inode offset bytes at old) (middle, progress.last) (λ there. PartOrSize new there (nat_lt at (offset + length bytes))) (reached_to at refl middle (b.first.made none))
      (subst (PartOrSize new (middle, progress.last)) (sym (le-ltb at (offset + length bytes) (omega (arith, b.whole none)))) stops)

  -- `write`
  in_order : {A : Type 0} (new : StoreState) (result : Result A FfsFault) →
      MatchResult result (λ x. MatchResult (reached T fs n inode offset bytes (offset + length bytes) old) (λ there. SizeMade T fs n (offset + length bytes) there.1 there.0 new) (λ refusal. ⊥))
      (λ fault. StopsThere T fs n inode offset bytes (stops_at T fs n inode offset bytes old new) old new) → ((other : List ℕ) → Ok other ≡ write_in (latest old.lives) fs n (offset + length bytes) → WritesInOrder T fs n other offset bytes old new result)
  in_order {A} new result h other found =
      subst (λ (m : List ℕ). WritesInOrder T fs n m offset bytes old new result) (same_ok inode other (b.is ∙ sym (looked (latest old.lives) fs n (offset + length bytes) other found).0)) (order_of T fs n inode offset bytes old new result b.there h)

  abbrev there_by : (new : StoreState) → stops_at T fs n inode offset bytes old new ≡ at → StopsThere T fs n inode offset bytes at old new → StopsThere T fs n inode offset bytes (stops_at T fs n inode offset bytes old new) old new
  there_by new e h = subst (λ (x : ℕ). StopsThere T fs n inode offset bytes x old new) (sym e) h

  pub stops_order : (fault : FfsFault) → progress.fault ≡ Some fault → ((other : List ℕ) → Ok other ≡ write_in (latest old.lives) fs n (offset + length bytes) → WritesInOrder {A = Unit {0}} T fs n other offset bytes old middle (Err fault))
  stops_order fault e = in_order {A = Unit {0}} middle (Err fault) (there_by middle (stops_there T fs array old middle n end offset bytes progress b middle refl) (part_there fault e))

  pub size_order : {A : Type 0} → progress.fault ≡ None → (new : StoreState) (result : Result A FfsFault) → Acts T fs (size_action (latest middle.lives) fs n (offset + length bytes) progress.last.size) middle new result →
      ((other : List ℕ) → Ok other ≡ write_in (latest old.lives) fs n (offset + length bytes) → WritesInOrder T fs n other offset bytes old new result)
  size_order {A} none new result acts = in_order new result (go result acts (stops_whole T fs array old middle n end offset bytes progress b none new (acts_later T fs (size_action (latest middle.lives) fs n (offset + length bytes) progress.last.size) middle new result acts)))
    where
      size : ℕ
      size = offset + length bytes

      go : (r : Result A FfsFault) → Acts T fs (size_action (latest middle.lives) fs n size progress.last.size) middle new r → stops_at T fs n inode offset bytes old new ≡ at →
          MatchResult r (λ x. MatchResult (reached T fs n inode offset bytes size old) (λ there. SizeMade T fs n size there.1 there.0 new) (λ refusal. ⊥)) (λ fault. StopsThere T fs n inode offset bytes (stops_at T fs n inode offset bytes old new) old new)
      go (Ok x) a e = at_ok (reached T fs n inode offset bytes size old) (middle, progress.last) (λ there. SizeMade T fs n size there.1 there.0 new) (reached_to size (b.whole none) middle (b.first.made none)) a
      go (Err fault) a e = there_by new e (size_there none new a)

  -- in the cuts, from where its parts go past the file's end, where it is to end behind all that is written
  pub shown : (size : ℕ) → at ≡ size → (other : List ℕ) → Ok other ≡ write_in (latest old.lives) fs n (offset + length bytes) → file_end other < size → (there : StoreState × Last) →
      reached T fs n other offset bytes (first_past (file_end other) offset) old ≡ Ok there → (word_at (b.first.puts.wrote inode b.is).after 4 < size) × IsConsistent T there.0 × WaitsOn fs n there.0 middle no_last progress.last
  shown size ends other found grow there made =
      let same = same_ok inode other (b.is ∙ sym (looked (latest old.lives) fs n (offset + length bytes) other found).0) in
      let held = (b.first.puts.wrote inode b.is).size in
      let more : file_end inode < size = subst (λ (m : List ℕ). file_end m < size) (sym same) grow in
      let w = b.first.waits there (subst (λ (m : List ℕ). reached T fs n m offset bytes (first_past (file_end m) offset) old ≡ Ok there) (sym same) made) (omega (arith, ends, more)) (omega (arith, ends, low, more)) in
      (omega (arith, held, b.low, more, ends, low), w.0, w.1)

  -- `write_some`
  abbrev InOrderSome : StoreState → Result ℕ FfsFault → Type 0
  InOrderSome new result = (other : List ℕ) → Ok other ≡ write_in (latest old.lives) fs n (offset + length bytes) → WritesSomeInOrder T fs n other offset bytes old new result

  takes_to : taken ≢ 0 → (Q : Last → StoreState → Type 0) → Q progress.last middle → TakesUpTo T fs n inode offset bytes taken old Q
  takes_to some Q q = elim (some_or_none progress.fault) [
    | inl none ↦
        let every : taken ≡ length bytes = let e = b.whole none in omega (arith, e) in
        at_ok (reached T fs n inode offset bytes (offset + taken) old) (middle, progress.last)
        (λ there. ((taken ≡ length bytes) × Q there.1 there.0) ⊎ ((m : StoreState) × StopsAtPart T fs n (file_end inode) offset bytes (offset + taken) there m × Q there.1 m)) (reached_to (offset + taken) (omega (arith, some)) middle (b.first.made none)) (inl (every, q))
    | inr x ↦
        let k = stopped_by x.0 x.1 in
        let here : at ≡ offset + taken = omega (arith, some) in
        at_ok (reached T fs n inode offset bytes (offset + taken) old) (k.before, progress.last)
        (λ there. ((taken ≡ length bytes) × Q there.1 there.0) ⊎ ((m : StoreState) × StopsAtPart T fs n (file_end inode) offset bytes (offset + taken) there m × Q there.1 m)) (reached_to (offset + taken) here k.before k.made)
        (inr (middle, subst (λ (x : ℕ). StopsAtPart T fs n (file_end inode) offset bytes x (k.before, progress.last) middle) here (tells_in T fs _ k.before middle x.0 k.told.told), q))
  ]

  abbrev Before : StoreState → Type 0
  Before new = StopsBefore T fs n inode offset bytes (stops_at T fs n inode offset bytes old new) old new

  some_in_order : (new : StoreState) (result : Result ℕ FfsFault) →
      MatchResult result (λ count. (count ≢ 0 → TakesUpTo T fs n inode offset bytes count old (λ last m. SizeMade T fs n (offset + count) last m new)) × (count ≡ 0 → Before new)) (λ fault. Before new) → InOrderSome new result
  some_in_order new result h other found =
      subst (λ (m : List ℕ). WritesSomeInOrder T fs n m offset bytes old new result) (same_ok inode other (b.is ∙ sym (looked (latest old.lives) fs n (offset + length bytes) other found).0))
      (some_order_of T fs n inode offset bytes old new result b.there h)

  -- behind the offset or not
  before_by : (new : StoreState) → stops_at T fs n inode offset bytes old new ≡ at → (t : Bool) → nat_lt offset at ≡ t → Where t (TakesUpTo T fs n inode offset bytes taken old (λ last m. SizeStops T fs n at last m new)) (StopsThere T fs n inode offset bytes at old new) → Before new
  before_by new e t is h =
      subst (λ (x : ℕ). StopsBefore T fs n inode offset bytes x old new) (sym e)
      (subst (λ (u : Bool). Where u (TakesUpTo T fs n inode offset bytes taken old (λ last m. SizeStops T fs n at last m new)) (StopsThere T fs n inode offset bytes at old new)) (sym is) h)

  none_by : (new : StoreState) → Before new → (result : Result ℕ FfsFault) → IfOk result (λ count. count ≡ 0) → InOrderSome new result
  none_by new stops (Ok count) z = some_in_order new (Ok count) (λ ne. absurd (ne z), λ e. stops)
  none_by new stops (Err fault) z = some_in_order new (Err fault) stops

  module _ (count : ℕ) (same : count ≡ taken) where
    pub taken_place : count ≢ 0 → at ≡ offset + count
    taken_place some = omega (arith, some, same)

    pub none_order : count ≡ 0 → (result : Result ℕ FfsFault) → IfOk result (λ k. k ≡ 0) → InOrderSome middle result
    none_order z result told = elim (some_or_none progress.fault) [
      | inl none ↦ absurd (b.there (let e = b.whole none in omega (arith, e, z, same)))
      | inr x ↦ none_by middle (before_by middle (stops_there T fs array old middle n end offset bytes progress b middle refl) false (le-ltb offset at (omega (arith, z, same))) (part_there x.0 x.1)) result told
    ]

    pub taken_order : count ≢ 0 → (new : StoreState) → Acts {A = Unit {0}} T fs (size_action (latest middle.lives) fs n (offset + count) progress.last.size) middle new (Ok tt) → InOrderSome new (Ok count)
    taken_order ne new acts =
        some_in_order new (Ok count) (
          λ z. subst (λ (k : ℕ). TakesUpTo T fs n inode offset bytes k old (λ last m. SizeMade T fs n (offset + k) last m new)) (sym same)
              (takes_to (λ e. ne (same ∙ e)) (λ last m. SizeMade T fs n (offset + taken) last m new) (subst (λ (k : ℕ). SizeMade T fs n (offset + k) progress.last middle new) same acts)),
          λ z. absurd (ne z),
        )

    pub refused_order : count ≢ 0 → (new : StoreState) (fault : FfsFault) → new ≡ middle → Acts {A = Unit {0}} T fs (size_action (latest middle.lives) fs n (offset + count) progress.last.size) middle new (Err fault) → (result : Result ℕ FfsFault) → IfOk result (λ k. k ≡ 0) → InOrderSome new result
    refused_order ne new fault stays acts result told =
        let some : taken ≢ 0 = λ e. ne (same ∙ e) in
        let here : offset + count ≡ at = sym (taken_place ne) in
        none_by new (before_by new (stops_there T fs array old middle n end offset bytes progress b new (ap (λ (s : StoreState). s.next) stays)) true (lt-ltb offset at (omega (arith, some)))
        (takes_to some (λ last m. SizeStops T fs n at last m new) (subst (λ (k : ℕ). SizeStops T fs n k progress.last middle new) here acts))) result told
