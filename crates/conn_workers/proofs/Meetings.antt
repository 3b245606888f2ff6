-- The proxy that a connection meets: by its number in the scenario, and that it is the first for the server.
use Rattle.std.proofs.Common.{◌≡◌, ◌≢◌, ℕ, ◌+◌, ◌<◌, ◌≤◌, Bool, find, List, [], ◌∷◌, ◌++◌, length, get_or, position, Option, Some, None, option_map, refl, sym, ap, subst, ◌∙◌, arith}
use Rattle.std.proofs.Math.Seq.{get_or-append_seam}
use Rattle.std.specs.List.{AllByRecursion, enumerate_from, position_or_len, slice_get}
use Rattle.std.specs.Option.{MatchOption}
use Rattle.std.proofs.lemmas.Grind.{common_steps}
use Rattle.std.proofs.lemmas.List.Folds.{find_at}
use Rattle.std.proofs.lemmas.List.FromFn.{length-enumerate_from}
use Rattle.std.proofs.lemmas.List.Quantifiers.{position-Some}
use Rattle.std.proofs.lemmas.Option.{slice_get_past, slice_get_read}
use Rattle.frame_headers.specs.declared.peers.Peer.{Peer}
use Rattle.scenarios.specs.Populate.{leads_to, met_number}
use Rattle.scenarios.specs.ProxyLaws.{IsFirstFor, FirstIsMet}
use Rattle.scenarios.specs.declared.proxies.Proxy.{Proxy}
use Rattle.conn_workers.specs.Recordings.{met_of, met_proxy}
use Rattle.conn_workers.specs.DeliveryLaws.{IsFirstMet, FirstProxyIsMet}
use Rattle.conn_workers.proofs.RowLemmas.{numbered}

-- the first element that passes, beside its number
module _ {X : Type 0} (test : X → Bool) where
  same_place : (n : ℕ) (xs : List X) → position_or_len (λ x. test x.1) (enumerate_from n xs) ≡ position_or_len test xs
  same_place n [] = refl
  same_place n (x ∷ xs) = rw (same_place (n + 1) xs) refl

  found_at : (xs : List X) → find (λ x. test x.1) (enumerate_from 0 xs) ≡ slice_get (enumerate_from 0 xs) (position_or_len test xs)
  found_at xs = find_at (λ x. test x.1) (enumerate_from 0 xs) ∙ ap (slice_get (enumerate_from 0 xs)) (same_place 0 xs)

  none_found : (xs : List X) → position test xs ≡ None → find (λ x. test x.1) (enumerate_from 0 xs) ≡ None
  none_found xs none =
      let past : length xs ≤ position_or_len test xs = grind (arith, common_steps) in
      found_at xs ∙ slice_get_past (enumerate_from 0 xs) (position_or_len test xs) (omega (arith, past, length-enumerate_from 0 xs))

  some_found : (xs : List X) (n : ℕ) (x : X) → position test xs ≡ Some n → x ≡ get_or xs n x → find (λ x. test x.1) (enumerate_from 0 xs) ≡ Some (n, x)
  some_found xs n x some read =
      let within : n < length xs = (position-Some test xs n x some).0 in
      let at : position_or_len test xs ≡ n = grind (arith, common_steps) in
      found_at xs ∙ ap (slice_get (enumerate_from 0 xs)) at ∙ numbered xs n x (slice_get_read xs (length xs) n x refl within read)

pub met_none : (server : Peer) (proxies : List Proxy) → met_number server proxies ≡ None → met_proxy server proxies ≡ None
met_none server proxies none = ap (option_map met_of) (none_found (leads_to server) proxies none)

pub met_some : (server : Peer) (proxies : List Proxy) (n : ℕ) (p : Proxy) → met_number server proxies ≡ Some n → p ≡ get_or proxies n p → met_proxy server proxies ≡ Some (met_of (n, p))
met_some server proxies n p some read = ap (option_map met_of) (some_found (leads_to server) proxies n p some read)

-- the proxy that is the first for a server stands at its number
stands_there : (server : Peer) (proxies : List Proxy) (n : ℕ) (first : IsFirstFor server proxies n) → first.proxy ≡ get_or proxies n first.proxy
stands_there server proxies n first =
    sym
    (ap (λ ps. get_or ps n first.proxy) first.split ∙ ap (λ k. get_or (first.before ++ first.proxy ∷ first.after) k first.proxy) (sym first.place)
    ∙ get_or-append_seam first.before first.proxy first.after first.proxy)

pub first_proxy_is_met : FirstIsMet → FirstProxyIsMet
first_proxy_is_met first_is_met server proxies = by (met_number server proxies) refl (first_is_met server proxies)
  where
    Others : Type 0
    Others = AllByRecursion (λ p. p.upstream ≢ server) proxies

    by : (o : Option ℕ) → met_number server proxies ≡ o → MatchOption o Others (IsFirstFor server proxies) → MatchOption (met_proxy server proxies) Others (IsFirstMet server proxies)
    by None none others = subst (λ m. MatchOption m Others (IsFirstMet server proxies)) (sym (met_none server proxies none)) others
    by (Some n) some first =
        subst (λ m. MatchOption m Others (IsFirstMet server proxies)) (sym (met_some server proxies n first.proxy some (stands_there server proxies n first)))
        (record { first = first; enabled = refl; up = refl; down = refl })
