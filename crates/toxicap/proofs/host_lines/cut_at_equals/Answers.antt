use Rattle.std.proofs.Common.{◌≡◌, ℕ, ◌<◌, ◌==◌, List, length, Option, Some, None, option_map, refl, arith, lit≤}
use Rattle.std.proofs.lemmas.Bool.{lt-ltb, le-ltb}
use Rattle.std.proofs.lemmas.Str.Pattern.{IsSplitOnceResult, split_once_first}
use Rattle.toxicap.specs.{Bor, position_or_len, cut_at_first}
use Rattle.toxicap.proofs.host_lines.cut_at_equals.Goals as goal

-- std's cut at the first place of a character is `cut_at_first`
cut_by_split : (byte : ℕ) (bs : List ℕ) (r : Option (Bor (List ℕ) × Bor (List ℕ))) → IsSplitOnceResult byte bs r → byte < 128
    → option_map (λ parts. (parts.0.now, parts.1.now)) r ≡ cut_at_first byte bs
cut_by_split byte bs None is small =
    let at_end = split_once_first byte bs None is small in
    rw (le-ltb (position_or_len (λ b. b == byte) bs) (length bs) (omega (arith, at_end))) refl
cut_by_split byte bs (Some parts) is small =
    let first = split_once_first byte bs (Some parts) is small in
    rw (lt-ltb (position_or_len (λ b. b == byte) bs) (length bs) first.0, first.1, first.2) refl

pub returns : goal.returns
returns c = cut_by_split 61 c.args.text.now _ c.split_once.ensures.cases (lit≤ tt)
