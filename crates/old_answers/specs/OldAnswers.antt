-- Captures that were rehearsed before captures in nanoseconds and frames with a tag are answered as they were.
use Rattle.std.specs.Prelude.{◌≡◌, ℕ, ◌⊎◌, false, List, IfOk}
use Rattle.std.specs.List.{AllByRecursion}
use Rattle.pcap_records.specs.declared.heading.Order.TheVariants.{Big, Little}
use Rattle.pcap_records.specs.Reading.{Packet, number_in, magic, reading}
use Rattle.frame_headers.specs.Frame.{is_tagged}
use Rattle.scenarios.specs.declared.proxies.Proxy.{Proxy}
use Rattle.old_answers.specs.AnswersBefore.{answer_before}
use Rattle.toxicap.specs.Rehearsal.{answer}

-- the first four bytes are the magic number of files in microseconds, in one of the two orders
abbrev pub HasFirstMagic : List ℕ → Type 0
HasFirstMagic bytes = (number_in Big 4 bytes ≡ magic) ⊎ (number_in Little 4 bytes ≡ magic)

-- no packet has the type of a tag in its bytes 12 and 13
abbrev pub AreUntagged : List Packet → Type 0
AreUntagged packets = AllByRecursion (λ p. is_tagged p.bytes ≡ false) packets

-- such a capture is answered as before, with outputs or with a refusal
abbrev pub OldAnswersAreKept : Type 0
OldAnswersAreKept =
    (bytes : List ℕ) → HasFirstMagic bytes → IfOk (reading bytes) (λ r. AreUntagged r.contents.packets)
    → (scenarios : List (List Proxy)) (seed : ℕ) → answer bytes scenarios seed ≡ answer_before bytes scenarios seed
