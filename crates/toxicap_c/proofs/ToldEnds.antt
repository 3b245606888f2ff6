-- How calls end by what they put, or tell.
use Rattle.std.proofs.Common.{◌≡◌, ℕ, List, [], length, Bool, true, false, Result, Ok, Err, inl, inr, refl, ap, subst}
use Rattle.std.specs.Prelude.{IfSome}
use Rattle.std.proofs.lemmas.Option.{IfSome_then}
use Rattle.run_files.specs.declared.error.RunFault.{RunFault}
use Rattle.run_files.specs.declared.error.RunFault.TheVariants.{Memory}
use Rattle.run_files.specs.RunFault.{fault_text, run_refusal}
use Rattle.toxicap_c.specs.declared.statuses.Status.{Status}
use Rattle.toxicap_c.specs.declared.statuses.Status.TheVariants.{Answered, Refused, LittleRoom, NoMemory}
use Rattle.toxicap_c.specs.Buffers.{Buffers, Puts, PutsText, buffers, put_of_text}
use Rattle.toxicap_c.specs.Calls.{put_by}
use Rattle.toxicap_c.specs.Endings.{Ends, EndsAs, IsTold}
use Rattle.toxicap_c.specs.Refusals.{IsTextOf, TellsIn}
use Rattle.toxicap_c.specs.Statuses.{code_of, status_of}

module _ {V A C S : Type 0} (sized : ℕ → ℕ → ℕ → S) (put : V → Buffers A C) (count : ℕ) (expected : Result V RunFault) where
  ended : (status : Status) (code : ℕ) (old new : Buffers A C) (size : S) → code ≡ code_of status → Ends sized count (put_by put expected) status old new size
      → EndsAs sized count (put_by put expected) code old new size
  ended status code old new size is ends = (status, is, ends)

  put_as : (v : V) (old new : Buffers A C) (size : S) → expected ≡ Ok v → (is_put : Bool) → Puts sized (put v) is_put old new size
      → Ends sized count (put_by put expected) (status_of is_put) old new size
  put_as v old new size is true puts = (put v, ap (put_by put) is, puts)
  put_as v old new size is false puts = (put v, inl (ap (put_by put) is), puts)

  -- an answer was put, or does not fit
  pub ends_put : (v : V) (old new : Buffers A C) (size : S) (is_put : Bool) (status : Status) (code : ℕ) → expected ≡ Ok v → Puts sized (put v) is_put old new size
      → status ≡ status_of is_put → code ≡ code_of status → EndsAs sized count (put_by put expected) code old new size
  ends_put v old new size is_put status code is puts by coded =
      ended status code old new size coded (rw by (put_as v old new size is is_put puts))

  module _ (first : List A) (last : List C) (before after : List ℕ) where
    put_text : (text : List ℕ) (is_put : Bool) → PutsText text is_put before after → Puts sized (put_of_text text) is_put (buffers first before last) (buffers first after last) (sized 0 (length text) 0)
    put_text text true (fits, is) = (ap (λ r. buffers first r last) is, refl)
    put_text text false (over, same) = (inr (inl over), ap (λ r. buffers first r last) same, refl)

    told_as : (fault : RunFault) → IsTold fault (put_by put expected) → (status : Status) (len : ℕ) → TellsIn count fault status before after len
        → Ends sized count (put_by put expected) status (buffers first before last) (buffers first after last) (sized 0 len 0)
    told_as fault called Answered len told = absurd told
    told_as fault called Refused len (told, text, inl of_memory, is, puts, long) =
        rw long (Memory, text, tt, subst (λ (f : RunFault). IsTextOf count f text) of_memory is, put_text text true puts)
    told_as fault called Refused len (told, text, inr same, is, puts, long) =
        rw long (fault, text, called, subst (λ (f : RunFault). IsTextOf count f text) same is, put_text text true puts)
    told_as fault called LittleRoom len (text, refused, is, puts, long) =
        rw long (put_of_text text, inr (fault, text, rw refused at called, is, refl), put_text text false puts)
    told_as fault called NoMemory len (puts, none) = rw none ((sized 0 (length (fault_text Memory)) 0, put_text (fault_text Memory) false puts), refl)

    -- a refusal or out of memory is told, or does not fit
    pub ends_told : (fault : RunFault) → IsTold fault expected → (status : Status) (len code : ℕ) → TellsIn count fault status before after len → code ≡ code_of status
        → EndsAs sized count (put_by put expected) code (buffers first before last) (buffers first after last) (sized 0 len 0)
    ends_told fault called status len code told coded =
        let refused = IfSome_then (run_refusal fault) called (λ f e. ap (put_by put) e) in
        ended status code _ _ _ coded (told_as fault refused status len told)
