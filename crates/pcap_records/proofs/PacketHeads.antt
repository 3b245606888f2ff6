-- How many first bytes of a packet are kept depends only on its first 15 bytes, and so is the same of what is kept.
use Rattle.std.proofs.Common.{◌≡◌, ◌≤◌, ℕ, Bool, true, false, ◌==◌, ◌&&◌, if◌then◌else◌, List, ◌++◌, length, take, slice_index, ap, ◌∙◌, arith}
use Rattle.std.proofs.lemmas.List.{take-take, get_or-take, get_or_append_left}
use Rattle.pcap_records.specs.Heads.{head_len, head_bytes, is_usual}

pub head_len-least : (xs : List ℕ) → 48 ≤ head_len xs
unfolding head_len
head_len-least xs = by (is_usual xs)
  where
    by : (b : Bool) → 48 ≤ (if b then 48 else 98)
    by true = omega arith
    by false = omega arith

same_len : (xs ys : List ℕ) → slice_index xs 12 ≡ slice_index ys 12 → slice_index xs 13 ≡ slice_index ys 13 → slice_index xs 14 ≡ slice_index ys 14 → head_len xs ≡ head_len ys
unfolding head_len
same_len xs ys x y z = λ i. if x i == 8 && (y i == 0 && z i == 69) then 48 else 98

pub head_len-take : (n : ℕ) (xs : List ℕ) → 48 ≤ n → head_len (take n xs) ≡ head_len xs
head_len-take n xs far =
    same_len (take n xs) xs (get_or-take n xs 12 0 (omega arith)) (get_or-take n xs 13 0 (omega arith)) (get_or-take n xs 14 0 (omega arith))

pub head_len-append : (xs ys : List ℕ) → 48 ≤ length xs → head_len (xs ++ ys) ≡ head_len xs
head_len-append xs ys long =
    same_len (xs ++ ys) xs (get_or_append_left xs ys 0 12 (omega arith)) (get_or_append_left xs ys 0 13 (omega arith)) (get_or_append_left xs ys 0 14 (omega arith))

-- what is kept has a head of the same length
pub head_len-head : (xs : List ℕ) → head_len (head_bytes xs) ≡ head_len xs
head_len-head xs = head_len-take (head_len xs) xs (head_len-least xs)

-- and is kept whole
pub head_bytes-again : (xs : List ℕ) → head_bytes (head_bytes xs) ≡ head_bytes xs
head_bytes-again xs = ap (λ n. take n (head_bytes xs)) (head_len-head xs) ∙ take-take (head_len xs) (head_len xs) xs (omega arith)
