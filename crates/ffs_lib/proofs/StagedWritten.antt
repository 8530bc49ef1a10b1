-- A write does what its function of the files says, or leaves one of its stages.
use Rattle.std.proofs.Common.{◌≡◌, ◌≢◌, ℕ, ◌+◌, ◌-◌, ◌%◌, ◌<◌, ◌≤◌, ◌⊎◌, Bool, true, false, List, [], ◌∷◌, ◌++◌, length, map, take, replicate, Option, Some, None, Result, Ok, Err, refl, sym, ◌∙◌, ap, inl, inr, arith, eq-eqb, subst, length-append, Contains, IfErr, IfOk, IfSome, IsOk, MatchResult, OnOk, ◌==◌, ◌&&◌, ◌||◌, filter, min, nat_lt, if◌then◌else◌, le-ltb, lt-ltb, ne_eqb, append-nil, length-take-le, take_all}
use Rattle.ffs_lib.proofs.Common.{Answer, FfsFault, File, Files, IsLibrary, Kernel, Refusal, StoreState, TooManyPending, Types, byte_of, cases_eq, fault_told}
use Rattle.ffs_lib.proofs.Common.{file_end, file_in, file_of, files_of, is_short, latest, length-map-range_with_len, length-replicate, mapped, most_bytes}
use Rattle.ffs_lib.proofs.Common.{or_left, or_right, range_with_len, take-append-add, with_value, word_at, write_in, written, written_bytes}
use Rattle.xn_model.proofs.ForCallers.{Contains-cons, Contains-none, filter_from}
use Rattle.ffs_lookup.proofs.ForCallers.{same_ok}
use Rattle.ffs_lib.specs.Outcomes.{IsRaised}
use Rattle.ffs_lib.specs.Orders.{Acts}
use Rattle.ffs_lib.specs.Results.{OnlyChanges}
use Rattle.ffs_lib.specs.Stages.{Ask, Asks, Does, IsRefused, IsStage, OfInode, OfPart, Stages, stages_of}
use Rattle.ffs_lib.specs.Steps.{Answers, Stage, Stops, StopsAtHome}
use Rattle.ffs_lib.specs.Values.{Leads}
use Rattle.ffs_lib.specs.WriteOrder.{after_at, after_in, after_of, after_reached, borders, no_last, parts_at, parts_made, places, size_action, stop_among, stops_at, written_by}
use Rattle.ffs_lib.specs.Writes.{MadeTo, PartStops, Parts, StopsPart, padded}
use Rattle.ffs_lib.specs.Written.{DoesSome, Overwrites, TakesSome, WritesSomeTo, WritesTo, first_place, if_any, is_size, last_stages, next_stages, part_stages, place_stages, size_stages, some_by, some_stages, written_stages, written_to}
use Rattle.ffs_lib.specs.Volumes.{IsVolume, edits_of}
use Rattle.ffs_lib.specs.declared.data.Last.{Last}
use Rattle.ffs_lib.specs.declared.data.Progress.{Progress}
use Rattle.ffs_lib.specs.declared.volume.Volume.{Volume}
use Rattle.ffs_lib.proofs.DataLaws.{puts_none}
use Rattle.ffs_lib.proofs.Laws.{staged}
use Rattle.ffs_lib.proofs.Parting.{end_found, never_some}
use Rattle.ffs_lib.proofs.Same.{same_on}
use Rattle.ffs_lib.proofs.Staged.{does_found, first_stages, later_stages}
use Rattle.ffs_lib.proofs.Stopping.{acts_later, stops_any, stops_behind, stops_here}
use Rattle.ffs_lib.proofs.Tops.{among}
use Rattle.ffs_lib.proofs.WriteParts.{border_place, places_none, places_split}
use Rattle.ffs_lib.proofs.ValueWritten.{file, file_is, files, first_files, looked, none_leads, some_leads, written_leads}

-- One of many stages

module _ (T : Types) (fs : ℕ) (new : StoreState) (fault : FfsFault) where
  at_one : (f : ℕ → Files) (ask : ℕ → Ask) (at : ℕ) (before : StoreState) → files_of (latest before.lives) fs ≡ f at → Asks T fs (ask at) before new fault → (xs : List ℕ) → Contains xs at → IsStage T fs new fault (map (λ x. (f x, ask x)) xs)
  at_one f ask at before is asks [] i = absurd (Contains-none at i)
  at_one f ask at before is asks (x ∷ xs) i = elim (Contains-cons x xs at i) [
    | inl e ↦ inl (before, is ∙ ap f (sym e), subst (λ (y : ℕ). Asks T fs (ask y) before new fault) (sym e) asks)
    | inr j ↦ inr (at_one f ask at before is asks xs j)
  ]

  -- at one of the places from one on that a test picks
  at_place : (f : ℕ → Files) (ask : ℕ → Ask) (test : ℕ → Bool) (at : ℕ) (before : StoreState) → files_of (latest before.lives) fs ≡ f at → Asks T fs (ask at) before new fault → test at ≡ true → (a k : ℕ) → a ≤ at → at < a + k →
      IsStage T fs new fault (map (λ x. (f x, ask x)) (filter test (range_with_len a k)))
  at_place f ask test at before is asks picked a k low high =
      at_one f ask at before is asks (filter test (range_with_len a k)) (filter_from test (range_with_len a k) at (among k a at low high) picked)

any_is : (bytes : List ℕ) (stages : Stages) → length bytes ≢ 0 → if_any bytes stages ≡ stages
any_is [] stages ne = absurd (ne refl)
any_is (byte ∷ rest) stages ne = refl

-- The file that is looked up
pub found_file : (content : ℕ → List ℕ) (fs n size end : ℕ) → Ok end ≡ mapped file_end (write_in content fs n size) → (inode : List ℕ) × (Ok inode ≡ file_in content fs n) × (file_end inode ≡ end) × (size ≤ most_bytes)
found_file content fs n size end e =
    let f = end_found (write_in content fs n size) end e in
    let l = looked content fs n size f.0 f.1 in
    (f.0, l.0, f.2, l.1)

pub some_or_none : (o : Option FfsFault) → (o ≡ None) ⊎ ((x : FfsFault) × (o ≡ Some x))
some_or_none None = inl refl
some_or_none (Some x) = inr (x, refl)

same_fault : (x y : FfsFault) → ◌≡◌ {A = Option FfsFault} (Some x) (Some y) → x ≡ y
same_fault x y e = cc

-- A write that is begun: its first bytes are written, and the size is as before
pub record Begun (T : Types) (fs : ℕ) (array : ℕ → Option ℕ) (old middle : StoreState) (n end offset : ℕ) (bytes : List ℕ) (progress : Progress) : Type 0 where
  pub inode : List ℕ
  pub is : Ok inode ≡ file_in (latest old.lives) fs n
  pub low : offset + length bytes ≤ most_bytes
  pub ends : file_end inode ≡ end
  pub there : length bytes ≢ 0
  pub whole : progress.fault ≡ None → min (file_end inode) offset + progress.done ≡ offset + length bytes
  pub first : Parts T fs array old middle n (file_end inode) offset bytes progress

pub begun : (T : Types) (volume : Volume) (old middle : StoreState) (n offset end : ℕ) (bytes : List ℕ) (progress : Progress) → IsVolume T old volume → volume.fs.number < 32 → (IsLibrary T → Ok end ≡ mapped file_end (write_in (latest old.lives) volume.fs.number n (offset + length bytes))) → length bytes ≢ 0 → (progress.fault ≡ None → min end offset + progress.done ≡ offset + length bytes) →
    ((made : Types) (array : ℕ → Option ℕ) → T ≡ made → Stage made volume.fs.number array old → IsOk (file_in (latest old.lives) volume.fs.number n) → Parts made volume.fs.number array old middle n end offset bytes progress) →
    Begun T volume.fs.number (edits_of volume.added) old middle n end offset bytes progress
begun T volume old middle n offset end bytes progress v few exact there whole parts =
    let f = found_file (latest old.lives) volume.fs.number n (offset + length bytes) end (exact v.library) in
    let p = parts T (edits_of volume.added) refl (staged v few) (subst (λ (r : Result (List ℕ) FfsFault). IsOk r) f.1 refl) in
    record { inode = f.0; is = f.1; low = f.3; ends = f.2; there = there; whole = λ z. ap (λ k. min k offset + progress.done) f.2 ∙ whole z; first = subst (λ (end : ℕ). Parts T volume.fs.number (edits_of volume.added) old middle n end offset bytes progress) (sym f.2) p }

pub volume_of : (T : Types) (volume : Volume) (state : StoreState) → Stage T volume.fs.number (edits_of volume.added) state → IsVolume T state volume
volume_of T volume state s = record { library = s.library; keeps = s.keeps }

module _ (T : Types) (fs : ℕ) (array : ℕ → Option ℕ) (old middle : StoreState) (n end offset : ℕ) (bytes : List ℕ) (progress : Progress) (b : Begun T fs array old middle n end offset bytes progress) where
  abbrev inode : List ℕ
  inode = b.inode

  abbrev is : Ok inode ≡ file_in (latest old.lives) fs n
  is = b.is

  abbrev p : Parts T fs array old middle n (file_end inode) offset bytes progress
  p = b.first

  abbrev low : offset + length bytes ≤ most_bytes
  low = b.low

  abbrev all : Files
  all = files old fs n offset inode is

  abbrev own : ℕ × List ℕ
  own = file old fs n offset inode is

  abbrev start : ℕ
  start = min (file_end inode) offset

  abbrev pads : List ℕ
  pads = padded (file_end inode) offset bytes

  abbrev to : ℕ → Files
  to at = written_to all n offset bytes own at

  abbrev asked : ℕ → Option ℕ
  asked = after_in T fs n offset bytes old

  long_own : length own.1 ≡ file_end inode
  long_own = length-map-range_with_len (byte_of (latest old.lives) inode) 0 (file_end inode)

  start_is : first_place own offset ≡ start
  start_is = ap (λ x. min x offset) long_own

  long_pads : length pads ≡ (offset - file_end inode) + length bytes
  long_pads = let a = length-replicate {A = ℕ} (offset - file_end inode) 0 in let b = length-append (replicate (offset - file_end inode) 0) bytes in omega (arith, a, b)

  abbrev is_place : ℕ → Bool
  is_place at = (at == offset) || (at % 512 == 0)

  abbrev parts_list : ℕ → ℕ → Stages
  parts_list first last = part_stages all asked n offset bytes own (borders first offset last)

  abbrev size_list : Stages
  size_list = size_stages all n offset bytes own (filter (nat_lt (length own.1)) ((offset + length bytes) ∷ []))

  abbrev some_sizes : Stages
  some_sizes = size_stages all n offset bytes own (filter (is_size (length own.1) (offset + length bytes)) (range_with_len (offset + 1) (length bytes)))

  any_are : (f : ℕ × List ℕ → Stages) → stages_of (file_of (all n)) (λ x. if_any bytes (f x)) ≡ f own
  any_are f = ap (λ r. stages_of r (λ x. if_any bytes (f x))) (file_is old fs n offset inode is) ∙ any_is bytes (f own) b.there

  written_are : written_stages all asked n offset bytes ≡ parts_list start (offset + length bytes) ++ size_list
  written_are = any_are (λ f. part_stages all asked n offset bytes f (borders (first_place f offset) offset (offset + length bytes)) ++ size_stages all n offset bytes f (filter (nat_lt (length f.1)) ((offset + length bytes) ∷ [])))
      ∙ ap (λ x. parts_list x (offset + length bytes) ++ size_list) start_is

  some_are : some_stages all asked n offset bytes ≡ parts_list start (offset + 1) ++ some_sizes
  some_are = any_are (λ f. part_stages all asked n offset bytes f (borders (first_place f offset) offset (offset + 1))
      ++ size_stages all n offset bytes f (filter (is_size (length f.1) (offset + length bytes)) (range_with_len (offset + 1) (length bytes)))) ∙ ap (λ x. parts_list x (offset + 1) ++ some_sizes) start_is

  abbrev Stopped : FfsFault → Type 0
  Stopped fault = PartStops T fs old middle n (file_end inode) offset bytes progress.done progress.last fault

  abbrev Refused : ℕ → StoreState → FfsFault → Type 0
  Refused at before fault = Asks T fs (OfPart n offset bytes at (asked at)) before middle fault

  refused : (fault : FfsFault) (k : Stopped fault) → Refused (start + progress.done) k.before fault
  refused fault k =
      let at : ℕ = start + progress.done in
      let comes : asked at ≡ after_at (file_end inode) offset bytes at progress.last = sym (ap (λ r. after_of T fs n offset bytes old r at) is) ∙ ap (after_reached (file_end inode) offset bytes at) k.made in
      subst (λ (o : Option ℕ). StopsPart T fs (parts_at fs n offset bytes at o) k.before middle n fault) (sym comes) k.told

  state_in : Result (StoreState × Last) Refusal → StoreState
  state_in (Ok x) = x.0
  state_in (Err refusal) = old

  -- before the first part nothing is made
  none_made : (before : StoreState) → progress.done ≡ 0 → MadeTo T fs n (file_end inode) offset bytes old progress.done before progress.last → before ≡ old
  unfolding state_in
  none_made before z made =
      let here : start + progress.done ≡ start = omega (arith, z) in
      let same : ◌≡◌ {A = Result (StoreState × Last) Refusal} (Ok (old, no_last)) (Ok (before, progress.last)) =
      sym (ap (λ (ys : List ℕ). parts_made T fs n (file_end inode) offset bytes ys (old, no_last)) (ap (places start offset) here ∙ places_none offset start)) ∙ made in
      sym (ap state_in same)

  -- a part was refused, among those up to a place
  part_among : (fault : FfsFault) → Stopped fault → (last : ℕ) → start + progress.done < last → (rest : Stages) → IsRefused T fs old middle fault (parts_list start last ++ rest)
  part_among fault k last less rest =
      let done = progress.done in elim (cases_eq done 0) [
        | inl z ↦
            let here : start + done ≡ start = omega (arith, z) in
            inl (subst (λ (s : StoreState). Refused start s fault) (none_made k.before z k.made) (subst (λ (x : ℕ). Refused x k.before fault) here (refused fault k)))
        | inr ne ↦
            let border : is_place (start + done) ≡ true = elim k.border [
              | inl z ↦ absurd (ne z)
              | inr (inl e) ↦ or_left (start + done == offset) ((start + done) % 512 == 0) (eq-eqb (start + done) offset e)
              | inr (inr e) ↦ or_right (start + done == offset) ((start + done) % 512 == 0) (eq-eqb ((start + done) % 512) 0 e)
            ] in
            inr (first_stages T fs middle fault _ rest (at_place T fs middle fault to (λ at. OfPart n offset bytes at (asked at)) is_place (start + done) k.before (first_files old fs n offset inode is k.before bytes done (omega (arith, k.low)) k.puts) (refused fault k) border
            (start + 1) (last - (start + 1)) (omega (arith, ne)) (omega (arith, less, ne))))
      ]

  part_refused : (fault : FfsFault) → Stopped fault → IsRefused T fs old middle fault (written_stages all asked n offset bytes)
  part_refused fault k = let few = k.low in let l = long_pads in subst (IsRefused T fs old middle fault) (sym written_are) (part_among fault k (offset + length bytes) (omega (arith, few, l)) size_list)

  place_are : (done : ℕ) → place_stages all asked n offset bytes done ≡ (to (start + done), OfPart n offset bytes (start + done) (asked (start + done))) ∷ (to (start + done), OfInode n) ∷ []
  place_are done =
      ap (λ r. stages_of r (λ f. part_stages all asked n offset bytes f ((first_place f offset + done) ∷ []) ++ size_stages all n offset bytes f ((first_place f offset + done) ∷ []))) (file_is old fs n offset inode is)
      ∙ ap (λ x. (to (x + done), OfPart n offset bytes (x + done) (asked (x + done))) ∷ (to (x + done), OfInode n) ∷ []) start_is

  part_place : (fault : FfsFault) → Stopped fault → IsStage T fs middle fault (place_stages all asked n offset bytes progress.done)
  part_place fault k =
      subst (IsStage T fs middle fault) (sym (place_are progress.done)) (inl (k.before, first_files old fs n offset inode is k.before bytes progress.done (omega (arith, k.low)) k.puts, refused fault k))

  size_place : (new : StoreState) (fault : FfsFault) → StopsAtHome T fs middle new n fault → IsStage T fs new fault (place_stages all asked n offset bytes progress.done)
  size_place new fault s = subst (IsStage T fs new fault) (sym (place_are progress.done)) (inr (inl (middle, first_files old fs n offset inode is middle bytes progress.done p.few p.puts, s)))

  abbrev last_of : Bool → ℕ → Stages
  last_of test at = if test then (to at, OfPart n offset bytes at (asked at)) ∷ [] else (to at, OfInode n) ∷ []

  last_are : (test : Bool) → nat_lt (start + progress.done) (offset + length bytes) ≡ test → last_stages all asked n offset bytes progress.done ≡ last_of test (start + progress.done)
  last_are test e =
      let done = progress.done in
      ap (λ r. stages_of r (λ f. if nat_lt (first_place f offset + done) (offset + length bytes) then part_stages all asked n offset bytes f ((first_place f offset + done) ∷ []) else size_stages all n offset bytes f ((first_place f offset + done) ∷ [])))
      (file_is old fs n offset inode is) ∙ (ap (λ x. last_of (nat_lt (x + done) (offset + length bytes)) (x + done)) start_is ∙ ap (λ t. last_of t (start + done)) e)

  part_last : (fault : FfsFault) → Stopped fault → IsStage T fs middle fault (last_stages all asked n offset bytes progress.done)
  part_last fault k =
      subst (IsStage T fs middle fault) (sym (last_are true (lt-ltb (start + progress.done) (offset + length bytes) (omega (arith, k.low, long_pads)))))
      (inl (k.before, first_files old fs n offset inode is k.before bytes progress.done (omega (arith, k.low)) k.puts, refused fault k))

  size_last : progress.done ≡ length pads → (new : StoreState) (fault : FfsFault) → StopsAtHome T fs middle new n fault → IsStage T fs new fault (last_stages all asked n offset bytes progress.done)
  size_last e new fault s =
      subst (IsStage T fs new fault) (sym (last_are false (le-ltb (start + progress.done) (offset + length bytes) (omega (arith, e, long_pads)))))
      (inl (middle, first_files old fs n offset inode is middle bytes progress.done p.few p.puts, s))

  next_are : (count : ℕ) → next_stages all asked n offset bytes count ≡ (to (offset + count), OfPart n offset bytes (offset + count) (asked (offset + count))) ∷ []
  next_are count = ap (λ r. stages_of r (λ f. part_stages all asked n offset bytes f ((offset + count) ∷ []))) (file_is old fs n offset inode is)

  abbrev next : List ℕ → Unit {0} × Files
  next bs = (tt, with_value all n (File own.0 (written_bytes own.1 offset bs)))

  abbrev taken : ℕ
  taken = start + progress.done - offset

  abbrev part : List ℕ
  part = take taken bytes

  few_taken : taken ≤ length bytes
  few_taken = let a = p.few in let c = long_pads in omega (arith, a, c)

  part_long : length part ≡ taken
  part_long = length-take-le taken bytes few_taken

  place : taken ≢ 0 → start + progress.done ≡ offset + taken
  place some = omega (arith, some)

  counted : taken ≢ 0 → progress.done ≡ (offset - file_end inode) + taken
  counted some = omega (arith, some)

  -- as it is counted
  pub same_taken : (least count : ℕ) → least ≡ min end offset → count ≡ least + progress.done - offset → count ≡ taken
  same_taken least count e f = f ∙ ap (λ k. k + progress.done - offset) (e ∙ ap (λ k. min k offset) (sym b.ends))

  same_part : taken ≢ 0 → take progress.done pads ≡ padded (file_end inode) offset part
  same_part some =
      ap (λ x. take x pads) (counted some ∙ ap (λ x. x + taken) (sym (length-replicate {A = ℕ} (offset - file_end inode) 0))) ∙ take-append-add (replicate (offset - file_end inode) 0) bytes taken

  abbrev after : List ℕ
  after = (p.puts.wrote inode is).after

  raised : taken ≢ 0 → (new : StoreState) → IsRaised (latest middle.lives) (latest new.lives) fs n after (offset + taken) → OnlyChanges (latest middle.lives) (latest new.lives) fs n → (x : Unit {0}) → Leads (Ok (next part)) (latest new.lives) fs x
  raised some new r others x =
      written_leads old fs n offset inode is middle new part (take progress.done pads) (same_part some) (omega (arith, few_taken, part_long, low)) p.puts (subst (λ (k : ℕ). IsRaised (latest middle.lives) (latest new.lives) fs n after (offset + k)) (sym part_long) r) others x

  stopped_by : (fault : FfsFault) → progress.fault ≡ Some fault → Stops Stopped fault
  stopped_by fault e = subst (λ (o : Option FfsFault). IfSome o (Stops Stopped)) e p.ended

  -- the size was refused, at one of some places
  size_among : (test : ℕ → Bool) (a k : ℕ) → test (start + progress.done) ≡ true → a ≤ start + progress.done → start + progress.done < a + k → (new : StoreState) (fault : FfsFault) → StopsAtHome T fs middle new n fault →
      IsStage T fs new fault (size_stages all n offset bytes own (filter test (range_with_len a k)))
  size_among test a k picked lo hi new fault s =
      at_place T fs new fault to (λ at. OfInode n) test (start + progress.done) middle (first_files old fs n offset inode is middle bytes progress.done p.few p.puts) s picked a k lo hi

  size_below : (size : ℕ) → size ≤ most_bytes → word_at after 4 < size → nat_lt (length own.1) size ≡ true
  size_below size few less = let w = (p.puts.wrote inode is).size in let l = long_own in lt-ltb (length own.1) size (omega (arith, l, less, w, few))

  size_refused : start + progress.done ≡ offset + length bytes → (new : StoreState) (fault : FfsFault) → (word_at after 4 < offset + length bytes) × StopsAtHome T fs middle new n fault → IsRefused T fs old new fault (written_stages all asked n offset bytes)
  size_refused ends new fault s =
      let picked = ap (nat_lt (length own.1)) ends ∙ size_below (offset + length bytes) low s.0 in
      subst (IsRefused T fs old new fault) (sym written_are) (inr (later_stages T fs new fault _ size_list
      (size_among (nat_lt (length own.1)) (offset + length bytes) 1 picked (omega (arith, ends)) (omega (arith, ends)) new fault s.1)))

  -- where some bytes are written
  size_some : taken ≢ 0 → (new : StoreState) (fault : FfsFault) → (word_at after 4 < offset + taken) × StopsAtHome T fs middle new n fault → IsRefused T fs old new fault (some_stages all asked n offset bytes)
  size_some some new fault s =
      let at : ℕ = start + progress.done in
      let here = place some in
      let below : nat_lt (length own.1) at ≡ true = ap (nat_lt (length own.1)) here ∙ size_below (offset + taken) (omega (arith, few_taken, low)) s.0 in
      let edge : (at % 512 == 0) || (at == offset + length bytes) ≡ true = elim (cases_eq at (offset + length bytes)) [
        | inl e ↦ or_right (at % 512 == 0) (at == offset + length bytes) (eq-eqb at (offset + length bytes) e)
        | inr ne ↦ elim (p.border (omega (arith, ne, few_taken, long_pads, here))) [
          | inl z ↦ absurd (omega (arith, z, here, some))
          | inr (inl e) ↦ absurd (omega (arith, e, here, some))
          | inr (inr e) ↦ or_left (at % 512 == 0) (at == offset + length bytes) (eq-eqb (at % 512) 0 e)
        ]
      ] in
      subst (IsRefused T fs old new fault) (sym some_are) (inr (later_stages T fs new fault _ some_sizes
      (size_among (is_size (length own.1) (offset + length bytes)) (offset + 1) (length bytes) (ap (λ (t : Bool). t && ((at % 512 == 0) || (at == offset + length bytes))) below ∙ edge) (omega (arith, here, some)) (omega (arith, here, few_taken)) new fault s.1)))

  -- where it stops, by the numbers of its edits
  abbrev stop : StoreState → ℕ
  stop = stops_at T fs n inode offset bytes old

  pub stops_whole : progress.fault ≡ None → (new : StoreState) → middle.next ≤ new.next → stop new ≡ start + progress.done
  stops_whole none new later =
      let at : ℕ = start + progress.done in
      stops_any T fs n inode offset bytes old new b.there
      ∙ (ap (λ (ys : List ℕ). stop_among T fs n (file_end inode) offset bytes new.next ys (old, no_last)) (ap (places start offset) (sym (b.whole none)) ∙ sym (append-nil (places start offset at)))
      ∙ (stops_behind T fs n (file_end inode) offset bytes new.next (places start offset at) [] (old, no_last) (middle, progress.last) (p.made none) later ∙ sym (b.whole none)))

  pub stops_there : (new : StoreState) → new.next ≡ middle.next → stop new ≡ start + progress.done
  stops_there new same = elim (some_or_none progress.fault) [
    | inl none ↦ stops_whole none new (omega (arith, same))
    | inr x ↦
        let k = (stopped_by x.0 x.1).1 in
        let at : ℕ = start + progress.done in
        let rest : List ℕ = filter is_place (range_with_len (at + 1) (offset + length bytes - (at + 1))) in
        stops_any T fs n inode offset bytes old new b.there
        ∙ (ap (λ (ys : List ℕ). stop_among T fs n (file_end inode) offset bytes new.next ys (old, no_last)) (places_split offset start at (offset + length bytes) (omega arith) (omega (arith, k.low, long_pads)) (border_place (file_end inode) offset progress.done at refl k.border))
        ∙ (stops_behind T fs n (file_end inode) offset bytes new.next (places start offset at) (at ∷ rest) (old, no_last) (k.before, progress.last) k.made (omega (arith, k.told.same.later, same))
        ∙ stops_here T fs n (file_end inode) offset bytes new.next at rest (k.before, progress.last) middle x.0 k.told.told same))
  ]

  by_done : (new : StoreState) → stop new ≡ start + progress.done → written_by T fs n inode offset bytes old new ≡ progress.done
  by_done new e = omega (arith, e)

  pub whole : progress.fault ≡ None → taken ≡ length bytes
  whole none = let e = b.whole none in omega (arith, e)

  pub all_done : taken ≡ length bytes → progress.done ≡ length pads
  all_done all = let c = counted (λ z. b.there (sym all ∙ z)) in let l = long_pads in omega (arith, c, l, all)

  -- `write`
  abbrev Raises : StoreState → ℕ → Unit {0} → Type 0
  Raises new size x = IsRaised (latest middle.lives) (latest new.lives) fs n after size × OnlyChanges (latest middle.lives) (latest new.lives) fs n

  abbrev RaiseStops : StoreState → ℕ → FfsFault → Type 0
  RaiseStops new size fault = (word_at after 4 < size) × StopsAtHome T fs middle new n fault

  pub write_refused : (fault : FfsFault) → progress.fault ≡ Some fault → Does T fs (written all n offset bytes) (written_stages all asked n offset bytes) old middle (Err fault)
  write_refused fault e =
      let stop = stopped_by fault e in
      does_found T fs (written all n offset bytes) (next bytes) (written_stages all asked n offset bytes) (written_stages all asked n offset bytes) (λ x. ⊥) (λ x. IsRefused T fs old middle x (written_stages all asked n offset bytes)) old middle (Err fault)
      (some_leads old fs n offset inode is bytes low b.there) refl (λ y none. absurd none) (λ x r. r) (stop.0, part_refused fault stop.1)

  pub write_done : progress.fault ≡ None → (new : StoreState) (result : Result (Unit {0}) FfsFault) → MatchResult result (Raises new (offset + length bytes)) (Stops (RaiseStops new (offset + length bytes))) →
      Does T fs (written all n offset bytes) (written_stages all asked n offset bytes) old new result
  write_done none new result ends =
      let every = whole none in
      let some : taken ≢ 0 = λ z. b.there (sym every ∙ z) in
      let same : part ≡ bytes = take_all taken bytes (omega (arith, every)) in
      does_found T fs (written all n offset bytes) (next bytes) (written_stages all asked n offset bytes) (written_stages all asked n offset bytes) (Raises new (offset + length bytes)) (RaiseStops new (offset + length bytes)) old new result
      (some_leads old fs n offset inode is bytes low b.there) refl
      (λ y r. subst (λ (m : List ℕ). Leads (Ok (next m)) (latest new.lives) fs y) same (raised some new (subst (λ (k : ℕ). IsRaised (latest middle.lives) (latest new.lives) fs n after (offset + k)) (sym every) r.0) r.1 y))
      (size_refused (b.whole none) new) ends

  -- What the files don't say
  abbrev Inodes : StoreState → (List ℕ → ℕ) → (List ℕ → ℕ → Type 0) → Type 0
  Inodes new by Q = (other : List ℕ) → Ok other ≡ write_in (latest old.lives) fs n (offset + length bytes) → Overwrites (latest old.lives) (latest new.lives) fs n other offset bytes (by other) × Q other (by other)

  inodes_by : (new : StoreState) (by : List ℕ → ℕ) (Q : List ℕ → ℕ → Type 0) → by inode ≡ progress.done → Overwrites (latest old.lives) (latest new.lives) fs n inode offset bytes progress.done → Q inode progress.done → Inodes new by Q
  inodes_by new by Q is_done o q other e =
      subst (λ (m : List ℕ). Overwrites (latest old.lives) (latest new.lives) fs n m offset bytes (by m) × Q m (by m)) (same_ok inode other (is ∙ sym (looked (latest old.lives) fs n (offset + length bytes) other e).0))
      (subst (λ (d : ℕ). Overwrites (latest old.lives) (latest new.lives) fs n inode offset bytes d × Q inode d) (sym is_done) (o, q))

  overwritten : Overwrites (latest old.lives) (latest middle.lives) fs n inode offset bytes progress.done
  overwritten =
      let k = p.puts.wrote inode is in
      record { others = p.puts.others; after = k.after; file = k.file; mode = k.marks.0; size = λ high. k.size; few = p.few; border = p.border; each = k.each }

  -- the size was raised then, or not
  overwritten_then : (size : ℕ) → size ≤ most_bytes → (new : StoreState) (result : Result (Unit {0}) FfsFault) → MatchResult result (Raises new size) (Stops (RaiseStops new size)) → Overwrites (latest old.lives) (latest new.lives) fs n inode offset bytes progress.done
  overwritten_then size few new (Ok x) r =
      let k = p.puts.wrote inode is in
      record {
        others = λ d ne. same_on (latest old.lives) (latest middle.lives) (latest new.lives) fs d (p.puts.others d ne) (r.1 d ne);
        after = r.0.after;
        file = r.0.file;
        mode = r.0.marks.0 ∙ k.marks.0;
        size = λ high. let w = k.size in let s = r.0.sized in omega (arith, w, s, high, few);
        few = p.few;
        border = p.border;
        each = λ at less. r.0.each at less ∙ k.each at less;
      }
  overwritten_then size few new (Err fault) stop = subst (λ (s : StoreState). Overwrites (latest old.lives) (latest s.lives) fs n inode offset bytes progress.done) (sym stop.1.1.0) overwritten

  abbrev Writes : StoreState → Result (Unit {0}) FfsFault → Type 0
  Writes new result = Inodes new (λ m. written_by T fs n m offset bytes old new) (λ m done. WritesTo T fs all asked n m offset bytes done new result)

  pub write_part_inodes : (fault : FfsFault) → progress.fault ≡ Some fault → Writes middle (Err fault)
  write_part_inodes fault e =
      inodes_by middle (λ m. written_by T fs n m offset bytes old middle) (λ m done. WritesTo T fs all asked n m offset bytes done middle (Err fault)) (by_done middle (stops_there middle refl)) overwritten (part_last fault (stopped_by fault e).1)

  pub write_inodes : progress.fault ≡ None → (new : StoreState) (result : Result (Unit {0}) FfsFault) → Acts T fs (size_action (latest middle.lives) fs n (offset + length bytes) progress.last.size) middle new result →
      MatchResult result (Raises new (offset + length bytes)) (Stops (RaiseStops new (offset + length bytes))) → Writes new result
  write_inodes none new result acts ends =
      let later = acts_later T fs (size_action (latest middle.lives) fs n (offset + length bytes) progress.last.size) middle new result acts in
      inodes_by new (λ m. written_by T fs n m offset bytes old new) (λ m done. WritesTo T fs all asked n m offset bytes done new result) (by_done new (stops_whole none new later)) (overwritten_then (offset + length bytes) low new result ends) (go result ends)
    where
      go : (r : Result (Unit {0}) FfsFault) → MatchResult r (Raises new (offset + length bytes)) (Stops (RaiseStops new (offset + length bytes))) → WritesTo T fs all asked n inode offset bytes progress.done new r
      go (Ok x) h = λ ne. all_done (whole none)
      go (Err fault) h = size_last (all_done (whole none)) new fault h.1.1

  -- `write_some`
  abbrev Takes : StoreState → Result ℕ FfsFault → Type 0
  Takes new result =
      DoesSome T fs all asked n offset bytes (written all n offset bytes) old new result × Inodes new (λ m. some_by T fs n m offset bytes old new result) (λ m done. WritesSomeTo T fs all asked n offset bytes done new result)

  takes_by : (new : StoreState) (result : Result ℕ FfsFault) → some_by T fs n inode offset bytes old new result ≡ progress.done → Overwrites (latest old.lives) (latest new.lives) fs n inode offset bytes progress.done →
      DoesSome T fs all asked n offset bytes (Ok (next bytes)) old new result × WritesSomeTo T fs all asked n offset bytes progress.done new result → Takes new result
  takes_by new result done o h = (
    subst (λ (a : Answer (Unit {0})). DoesSome T fs all asked n offset bytes a old new result) (sym (some_leads old fs n offset inode is bytes low b.there)) h.0,
    inodes_by new (λ m. some_by T fs n m offset bytes old new result) (λ m d. WritesSomeTo T fs all asked n offset bytes d new result) done o h.1,
  )

  -- where it takes no byte
  abbrev IsTold : Option FfsFault → Result ℕ FfsFault → Type 0
  IsTold fault result = OnOk result ((fault ≡ None) ⊎ (fault ≡ Some (Kernel TooManyPending))) × IfOk result (λ count. count ≡ 0) × IfErr result (λ other. (fault ≡ Some other) × (other ≢ Kernel TooManyPending))

  abbrev NoneStops : StoreState → FfsFault → Type 0
  NoneStops new y = IsRefused T fs old new y (some_stages all asked n offset bytes) × IsStage T fs new y (place_stages all asked n offset bytes progress.done)

  -- where it takes some
  takes_some : taken ≢ 0 → (new : StoreState) → Raises new (offset + taken) tt → TakesSome T fs all asked n offset bytes old new taken
  takes_some some new r = record {
    few = few_taken;
    leads = λ z.
        subst (λ (a : Answer (Unit {0})). Leads a (latest new.lives) fs tt) (sym (some_leads old fs n offset inode is part (omega (arith, few_taken, part_long, low)) (λ y. some (sym part_long ∙ y)))) (raised some new r.0 r.1 tt);
    stopped = λ z less. stopped less (some_or_none progress.fault);
    none = λ z any. absurd (some z);
  }
    where
      stopped : taken < length bytes → (progress.fault ≡ None) ⊎ ((x : FfsFault) × (progress.fault ≡ Some x)) → (m : StoreState) × (fault : FfsFault) × (is_short fault ≡ true) × IsStage T fs m fault (next_stages all asked n offset bytes taken)
      stopped less (inl none) = let every = whole none in absurd (omega (arith, every, less))
      stopped less (inr x) =
          let stop = stopped_by x.0 x.1 in
          let k = stop.1 in
          let here = place some in (
            middle,
            x.0,
            stop.0,
            subst (IsStage T fs middle x.0) (sym (next_are taken))
                (inl (k.before, first_files old fs n offset inode is k.before bytes progress.done (omega (arith, k.low)) k.puts ∙ ap to here, subst (λ (at : ℕ). Refused at k.before x.0) here (refused x.0 k))),
          )

  takes_none : (new : StoreState) (fault : Option FfsFault) → new.next ≡ middle.next → Overwrites (latest old.lives) (latest new.lives) fs n inode offset bytes progress.done → fault ≢ None → ((x : FfsFault) → fault ≡ Some x → Stops (NoneStops new) x) →
      (result : Result ℕ FfsFault) → IsTold fault result → Takes new result
  takes_none new fault same o there stop (Ok count) fault_told =
      takes_by new (Ok count) (ap (λ (t : Bool). if t then written_by T fs n inode offset bytes old new else (offset - file_end inode) + count) (eq-eqb count 0 fault_told.1) ∙ by_done new (stops_there new same)) o (
        record { few = let z = fault_told.1 in omega (arith, z); leads = λ ne. absurd (ne fault_told.1); stopped = λ ne less. absurd (ne fault_told.1); none = λ z any. (told_stop fault_told.0).0 },
        λ z any. (told_stop fault_told.0).1,
      )
    where
      told_stop : (fault ≡ None) ⊎ (fault ≡ Some (Kernel TooManyPending)) → NoneStops new (Kernel TooManyPending)
      told_stop (inl none) = absurd (there none)
      told_stop (inr e) = (stop (Kernel TooManyPending) e).1
  takes_none new fault same o there stop (Err other) fault_told = let s = stop other fault_told.2.0 in takes_by new (Err other) (by_done new (stops_there new same)) o ((fault_told.2.1, s.0, s.1.0), s.1.1)

  -- by a count
  module _ (count : ℕ) (same : count ≡ taken) where
    pub count_none : count ≡ 0 → (result : Result ℕ FfsFault) → IsTold progress.fault result → Takes middle result
    count_none z result fault_told =
        takes_none middle progress.fault refl overwritten (λ e. b.there (sym (whole e) ∙ (sym same ∙ z))) (λ x e.
        let stop = stopped_by x e in
        (stop.0, (subst (IsRefused T fs old middle x) (sym some_are) (part_among x stop.1 (offset + 1) (omega (arith, same, z)) some_sizes), part_place x stop.1))) result fault_told

    count_low : offset + count ≤ most_bytes
    count_low = let few = few_taken in omega (arith, few, low, same)

    pub count_taken : count ≢ 0 → (new : StoreState) → Raises new (offset + count) tt → Takes new (Ok count)
    count_taken ne new r =
        let some : taken ≢ 0 = λ z. ne (same ∙ z) in
        takes_by new (Ok count)
        (ap (λ (t : Bool). if t then written_by T fs n inode offset bytes old new else (offset - file_end inode) + count) (ne_eqb count 0 ne) ∙ (ap (λ k. (offset - file_end inode) + k) same ∙ sym (counted some)))
        (overwritten_then (offset + count) count_low new (Ok tt) r) (
          subst (λ (k : ℕ). TakesSome T fs all asked n offset bytes old new k) (sym same) (takes_some some new (subst (λ (k : ℕ). Raises new (offset + k) tt) same r)),
          λ z. absurd (ne z),
        )

    pub count_refused : count ≢ 0 → (new : StoreState) (fault : FfsFault) → Stops (RaiseStops new (offset + count)) fault → (result : Result ℕ FfsFault) → IsTold (Some fault) result → Takes new result
    count_refused ne new fault stop result fault_told =
        takes_none new (Some fault) (ap (λ (s : StoreState). s.next) stop.1.1.0) (overwritten_then (offset + count) count_low new (Err fault) stop) (λ z. never_some fault z) (λ y e. subst (Stops (NoneStops new)) (same_fault fault y e)
        (stop.0, (size_some (λ z. ne (same ∙ z)) new fault (subst (λ (k : ℕ). word_at after 4 < offset + k) same stop.1.0, stop.1.1), size_place new fault stop.1.1))) result fault_told

-- No bytes
module _ (T : Types) (fs : ℕ) (old : StoreState) (n : ℕ) (inode : List ℕ) (offset : ℕ) (bytes : List ℕ) (is : Ok inode ≡ file_in (latest old.lives) fs n) (none : bytes ≡ []) where
  abbrev now : Files
  now = files_of (latest old.lives) fs

  led : offset + length bytes ≤ most_bytes → written now n offset bytes ≡ Ok (tt, now)
  led low = ap (written now n offset) none ∙ none_leads old fs n offset inode is (omega (arith, low))

  pub none_does : (after : ℕ → Option ℕ) → offset + length bytes ≤ most_bytes → Does T fs (written now n offset bytes) (written_stages now after n offset bytes) old old (Ok tt)
  none_does after low = subst (λ (a : Answer (Unit {0})). Does T fs a (written_stages now after n offset bytes) old old (Ok tt)) (sym (led low)) (refl, λ i. refl)

  pub none_takes : (after : ℕ → Option ℕ) → offset + length bytes ≤ most_bytes → DoesSome T fs now after n offset bytes (written now n offset bytes) old old (Ok 0)
  none_takes after low = subst (λ (a : Answer (Unit {0})). DoesSome T fs now after n offset bytes a old old (Ok 0)) (sym (led low))
      (record { few = omega arith; leads = λ ne. absurd (ne refl); stopped = λ ne less. absurd (ne refl); none = λ z any. absurd (any none) })

  -- what the files don't say
  pub overwrites_none : Overwrites (latest old.lives) (latest old.lives) fs n inode offset bytes (written_by T fs n inode offset bytes old old)
  overwrites_none =
      let a = puts_none old fs n (min (file_end inode) offset) in
      let k = a.wrote inode is in
      let nothing : Overwrites (latest old.lives) (latest old.lives) fs n inode offset bytes 0 =
      record { others = a.others; after = k.after; file = k.file; mode = k.marks.0; size = λ high. k.size; few = omega arith; border = λ lt. inl refl; each = k.each } in
      let e = ap (λ (m : List ℕ). stops_at T fs n inode offset m old old) none in
      let zero_written : 0 ≡ written_by T fs n inode offset bytes old old = omega (arith, e) in
      subst (Overwrites (latest old.lives) (latest old.lives) fs n inode offset bytes) zero_written nothing

-- Look-ups that fail
pub fault_takes : (T : Types) (fs : ℕ) (files : Files) (after : ℕ → Option ℕ) (n offset : ℕ) (bytes : List ℕ) (looked : Result (List ℕ) FfsFault) (answer : Answer (Unit {0})) (old new : StoreState) (result : Result ℕ FfsFault) → fault_told looked ≡ fault_told answer →
    Answers looked (λ x y. ⊥) (λ x fault. ⊥) old new result → DoesSome T fs files after n offset bytes answer old new result
fault_takes T fs files after n offset bytes (Err fault) (Err other) old new result e h = let same : fault ≡ other = cc e in (h.0 ∙ ap (λ (f : FfsFault). Err f) same, h.1)
fault_takes T fs files after n offset bytes (Err fault) (Ok next) old new result e h = absurd (cc e)
fault_takes T fs files after n offset bytes (Ok x) answer old new (Ok y) e h = absurd h
fault_takes T fs files after n offset bytes (Ok x) answer old new (Err fault) e h = absurd h.1
