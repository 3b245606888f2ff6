-- How the bytes of a file come, read after read, and how the text of an input was loaded and seen.
use Rattle.std.proofs.Common.{◌≡◌, ◌<◌, ◌≤◌, ℕ, ◌+◌, ◌-◌, Bool, true, false, ◌&&◌, nat_lt, List, ◌++◌, length, take, drop, Option, Some, None, Ok, Result}
use Rattle.std.proofs.Common.{IfSome, refl, sym, ap, ap₂, subst, ◌∙◌, arith, length-append, length-drop, take-add, [], Err, IfErr, IfOk}
use Rattle.std.proofs.lemmas.Bool.{le-ltb, lt-ltb}
use Rattle.std.proofs.lemmas.List.{drop-drop, length-take-le, take-take, take_all}
use Rattle.run_files.specs.{Consumes, IsAtEnd, FileContents, Gives, IsFileAt, file_len, Reads, History, held_now, AgreesUnlessMemory, block_len, DiskFault}
use Rattle.run_files.specs.{capture_limit, HaveCome, text_at, text_of_file, IsOfFile, run_refusal, part_at, CameOf, FailedOf, IsPast, Loads, LoadsInput}
use Rattle.run_files.specs.{StopsLoading}
use Rattle.run_files.specs.declared.error.RunFault.{RunFault}
use Rattle.run_files.specs.declared.error.RunFault.TheVariants.{CaptureTooLong, Memory, ReadFailed}

-- ---- the bytes of a file, read after read

-- some first bytes of a file from a start on, and the first ones that one read gives after them
one_read : (f : FileContents) (start : ℕ) (part room more : List ℕ) (n own : ℕ) → own ≤ n → part ≡ take (length part) (drop start f.bytes)
    → length part ≤ length f.bytes - start → Gives f (start + length part) room n → more ≡ part ++ take own room
    → (more ≡ take (length more) (drop start f.bytes)) × (length more ≤ length f.bytes - start) × (length more ≡ length part + own)
one_read f start part room more n own fewer first within gives all =
    let rest : List ℕ = drop start f.bytes in
    let came : take own room ≡ take own (drop (length part) rest) =
    sym (take-take own n room fewer) ∙ ap (take own) gives.bytes ∙ take-take own n (drop (start + length part) f.bytes) fewer
    ∙ ap (take own) (sym (drop-drop (length part) start f.bytes)) in
    let many : length (take own room) ≡ own =
    ap length came ∙ length-take-le own (drop (length part) rest) (omega (arith, fewer, gives.within, length-drop (length part) rest, length-drop start f.bytes)) in
    let longer : length more ≡ length part + own = ap length all ∙ length-append part (take own room) ∙ ap (λ k. length part + k) many in (
      all ∙ ap₂ (λ (xs ys : List ℕ). xs ++ ys) first came ∙ sym (take-add (length part) own rest) ∙ ap (λ k. take k rest) (sym longer),
      omega (arith, longer, fewer, gives.within, within),
      longer,
    )

-- a read at the place of the bytes that came
pub whole_step : (contents : Option FileContents) (bytes room more : List ℕ) (place next n : ℕ) → IfSome contents (λ f. HaveCome f bytes place)
    → IfSome contents (λ f. Gives f place room n) → IfSome contents (λ f. next ≡ place + n) → more ≡ bytes ++ take n room → IfSome contents (λ f. HaveCome f more next)
whole_step None bytes room more place next n first gives moved all = tt
whole_step (Some f) bytes room more place next n first gives moved all =
    let here : place ≡ 0 + length bytes = omega (arith, first.2) in
    let read = one_read f 0 bytes room more n n (omega arith) first.0 (omega (arith, first.1)) (subst (λ k. Gives f k room n) here gives) all in
    (read.0, omega (arith, read.1), omega (arith, moved, first.2, read.2))

-- the first bytes of a read, after those that came of a part
pub part_step : (contents : Option FileContents) (start : ℕ) (part room more : List ℕ) (n own : ℕ) → own ≤ n
    → IfSome contents (λ f. (part ≡ take (length part) (drop start f.bytes)) × (length part ≤ length f.bytes - start))
    → IfSome contents (λ f. Gives f (start + length part) room n) → more ≡ part ++ take own room
    → IfSome contents (λ f. (more ≡ take (length more) (drop start f.bytes)) × (length more ≤ length f.bytes - start))
part_step None start part room more n own fewer first gives all = tt
part_step (Some f) start part room more n own fewer first gives all =
    let read = one_read f start part room more n own fewer first.0 first.1 gives all in (read.0, read.1)

-- ---- a part that is loaded

none_right : (a b : Bool) → b ≡ false → (a && b) ≡ false
none_right true b is = is
none_right false b is = refl

-- it has all bytes that a block has of its own
pub full_part : (contents : Option FileContents) (start : ℕ) (part : List ℕ) → length part ≡ block_len
    → IfSome contents (λ f. (part ≡ take (length part) (drop start f.bytes)) × (length part ≤ length f.bytes - start)) → IfSome contents (λ f. part_at f start ≡ Ok part)
full_part None start part full first = tt
full_part (Some f) start part full first =
    let enough : nat_lt (length f.bytes) (start + block_len) ≡ false = le-ltb (length f.bytes) (start + block_len) (omega (arith, full, first.1)) in
    let same : take block_len (drop start f.bytes) ≡ part = sym (first.0 ∙ ap (λ k. take k (drop start f.bytes)) full) in
    rw (enough, same) refl

pub last_part : (contents : Option FileContents) (start : ℕ) (part room : List ℕ) → length part ≤ block_len → 0 < length room → IfSome contents (λ f. start < file_len f)
    → IfSome contents (λ f. (part ≡ take (length part) (drop start f.bytes)) × (length part ≤ length f.bytes - start))
    → IfSome contents (λ f. Gives f (start + length part) room 0) → IfSome contents (λ f. part_at f start ≡ Ok part)
last_part None start part room short some within first gives = tt
last_part (Some f) start part room short some within first gives =
    let over : length f.bytes + f.lost ≤ start + length part = gives.at_end refl some in
    let whole : nat_lt 0 f.lost ≡ false = le-ltb 0 f.lost (omega (arith, over, first.1, within)) in
    let rest : length (drop start f.bytes) ≡ length part = omega (arith, over, first.1, within, length-drop start f.bytes) in
    let same : take block_len (drop start f.bytes) ≡ part =
    take_all block_len (drop start f.bytes) (omega (arith, rest, short)) ∙ sym (first.0 ∙ take_all (length part) (drop start f.bytes) (omega (arith, rest))) in
    rw (none_right (nat_lt (length f.bytes) (start + block_len)) (nat_lt 0 f.lost) whole, same) refl

-- ---- the file at a path

module _ {A : Type 0} (view : A → List ℕ) (result : Result A RunFault) where
  abbrev Loaded : Result (List ℕ) RunFault → Type 0
  Loaded expected = AgreesUnlessMemory run_refusal view result expected

  from_held : (held contents : Option FileContents) → IsFileAt held contents → IfSome contents (λ f. Loaded (text_of_file (Some f))) → Loaded (text_of_file held)
  from_held None contents is of = absurd is
  from_held (Some f) contents is of = subst (λ t. IfSome t (λ file. Loaded (text_of_file (Some file)))) is of

  -- what is loaded of the file that was opened is so of its path
  pub text_of_path : (history : Option History) (path : List ℕ) (contents : Option FileContents) → IfSome history (λ h. IsFileAt (held_now h path) contents)
      → IfSome contents (λ f. Loaded (text_of_file (Some f))) → IfSome history (λ h. Loaded (text_at (held_now h) path))
  text_of_path None path contents is of = tt
  text_of_path (Some h) path contents is of = from_held (held_now h path) contents is of

-- ---- the text of an input

-- ---- one read of a file

module _ (contents between now : Option FileContents) (bytes room : List ℕ) (place next : ℕ) (same : now ≡ between) (came : CameOf contents between place bytes) where
  pub more_came : (n : ℕ) → IfSome between (λ f. Gives f place room n) → IfSome between (λ f. next ≡ place + n) → CameOf contents now next (bytes ++ take n room)
  more_came n gives moved = (
    same ∙ came.0,
    whole_step contents bytes room (bytes ++ take n room) place next n came.1 (subst (λ t. IfSome t (λ f. Gives f place room n)) came.0 gives)
        (subst (λ t. IfSome t (λ f. next ≡ place + n)) came.0 moved) refl,
  )

  lost : (t : Option FileContents) (fault : DiskFault) → IfSome t (λ f. HaveCome f bytes place) → IfSome t (λ f. Reads (Err fault) f place room) → next ≡ place
      → IfSome t (λ f. HaveCome f bytes next × (length f.bytes ≤ next) × (next < file_len f))
  lost None fault come reads still = tt
  lost (Some f) fault come reads still = rw still (come, reads.0, reads.1)

  pub failed_after : (fault : DiskFault) → IfSome between (λ f. Reads (Err fault) f place room) → next ≡ place → FailedOf contents now next bytes
  failed_after fault reads still = (same ∙ came.0, lost contents fault came.1 (subst (λ t. IfSome t (λ f. Reads (Err fault) f place room)) came.0 reads) still)

pub is_past : (contents now : Option FileContents) (room : List ℕ) (place next n : ℕ) → now ≡ contents → IfSome contents (λ f. Gives f place room n) → IfSome contents (λ f. next ≡ place + n)
    → n ≡ 0 → 0 < length room → IsPast now next
is_past None now room place next n same gives moved none some = rw same tt
is_past (Some f) now room place next n same gives moved none some =
    let over : length f.bytes + f.lost ≤ next = omega (arith, gives.at_end none some, moved) in
    rw same over

-- ---- all of it

-- none of a file yet
pub none_come : (contents : Option FileContents) (place : ℕ) → place ≡ 0 → CameOf contents contents place []
none_come None place start = (refl, tt)
none_come (Some f) place start = (refl, (refl, omega arith, start))

module _ (f : FileContents) (given : List ℕ) (place : ℕ) (come : HaveCome f given place) where
  whole_text : file_len f ≤ place → length given ≤ capture_limit → text_of_file (Some f) ≡ Ok given
  whole_text over within =
      let fits : nat_lt capture_limit (length f.bytes) ≡ false = le-ltb capture_limit (length f.bytes) (omega (arith, over, come.1, come.2, within)) in
      let whole : nat_lt 0 f.lost ≡ false = le-ltb 0 f.lost (omega (arith, over, come.1, come.2)) in
      let same : f.bytes ≡ given = sym (come.0 ∙ take_all (length given) f.bytes (omega (arith, over, come.2))) in
      rw (fits, whole) (ap (λ (xs : List ℕ). Ok xs) same)

  too_long : capture_limit < length given → text_of_file (Some f) ≡ Err CaptureTooLong
  too_long more =
      let over : nat_lt capture_limit (length f.bytes) ≡ true = lt-ltb capture_limit (length f.bytes) (omega (arith, come.1, more)) in
      rw over refl

  lost_text : (length f.bytes ≤ place) × (place < file_len f) → length given ≤ capture_limit → text_of_file (Some f) ≡ Err ReadFailed
  lost_text reads within =
      let fits : nat_lt capture_limit (length f.bytes) ≡ false = le-ltb capture_limit (length f.bytes) (omega (arith, reads.0, come.2, within)) in
      let some : nat_lt 0 f.lost ≡ true = lt-ltb 0 f.lost (omega (arith, reads.1, come.1, come.2)) in
      rw (fits, some) refl

-- the text of a file
pub file_loaded : {A : Type 0} (view : A → List ℕ) (contents now : Option FileContents) (place : ℕ) (result : Result A RunFault) → IfOk result (λ x. length (view x) ≤ capture_limit)
    → Loads (CameOf contents now place) (FailedOf contents now place) (IsPast now place) view result
    → IfErr result IsOfFile × IfSome contents (λ f. AgreesUnlessMemory run_refusal view result (text_of_file (Some f)))
file_loaded view None now place (Ok x) within is = (tt, tt)
file_loaded view None now place (Err CaptureTooLong) within is = (tt, tt)
file_loaded view None now place (Err ReadFailed) within is = (tt, tt)
file_loaded view None now place (Err Memory) within is = (tt, tt)
file_loaded view None now place (Err fault) within is = absurd is
file_loaded view (Some f) now place (Ok x) within is = (tt, whole_text f (view x) place is.0.1 (subst (λ t. IsPast t place) is.0.0 is.1) within)
file_loaded view (Some f) now place (Err CaptureTooLong) within is = (tt, too_long f is.0 place is.1.1 is.2)
file_loaded view (Some f) now place (Err ReadFailed) within is = (tt, lost_text f is.0 place is.1.1.0 (is.1.1.1, is.1.1.2) is.2)
file_loaded view (Some f) now place (Err Memory) within is = (tt, tt)
file_loaded view (Some f) now place (Err fault) within is = absurd is

-- the text of a reader
module _ (a b : Option (List ℕ)) (old new : ℕ) where
  pub reader_stops : (fault : RunFault) → Loads {A = List ℕ} (λ given. Consumes a b given × (new ≡ old)) (λ given. Consumes a b given × (new ≡ old + 1)) (IsAtEnd b) (λ text. text) (Err fault)
      → (given : List ℕ) × Consumes a b given × StopsLoading fault (length given) old new
  reader_stops CaptureTooLong is = (is.0, is.1.0, (is.2, is.1.1))
  reader_stops ReadFailed is = (is.0, is.1.0, (is.2, is.1.1))
  reader_stops Memory is = (is.0, is.1.0, (is.2, is.1.1))
  reader_stops fault is = absurd is

  pub reader_loaded : (loaded : Result (List ℕ) RunFault)
      → Loads (λ given. Consumes a b given × (new ≡ old)) (λ given. Consumes a b given × (new ≡ old + 1)) (IsAtEnd b) (λ text. text) loaded
      → LoadsInput (λ text. text) loaded (λ given. Consumes a b given) (IsAtEnd b) old new
  reader_loaded (Ok text) is = (is.0.0, is.1, is.0.1)
  reader_loaded (Err fault) is = reader_stops fault is
