-- The proxy that a server meets is the first that stands before it.
use Rattle.std.proofs.Common.{◌≡◌, ◌≢◌, ℕ, suc, ◌+◌, Bool, true, false, cond, nat_lt, List, [], ◌∷◌, length, Option, Some, None, option_map, refl, ap, ◌∙◌, arith, eqb-true, eq-eqb}
use Rattle.std.proofs.lemmas.Bool.{and_parts}
use Rattle.std.proofs.lemmas.Bool.Decides.{nat_tests}
use Rattle.std.specs.List.{AllByRecursion, position_or_len}
use Rattle.std.specs.Option.{MatchOption}
use Rattle.frame_headers.specs.declared.peers.Peer.{Peer}
use Rattle.scenarios.specs.Populate.{leads_to, met_number}
use Rattle.scenarios.specs.ProxyLaws.{IsFirstFor, FirstIsMet}
use Rattle.scenarios.specs.declared.proxies.Proxy.{Proxy}

peer : ℕ → ℕ → Peer
peer addr port = record { addr = addr; port = port }

leads : (server : Peer) (p : Proxy) → leads_to server p ≡ true → p.upstream ≡ server
unfolding peer
leads server p test =
    let addr = eqb-true p.upstream.addr server.addr ((and_parts _ _ test).0) in
    let port = eqb-true p.upstream.port server.port ((and_parts _ _ test).1) in
    ap (λ a. peer a p.upstream.port) addr ∙ ap (peer server.addr) port

leads_not : (server : Peer) (p : Proxy) → leads_to server p ≡ false → p.upstream ≢ server
leads_not server p test same =
    let own : leads_to server p ≡ true = rw (ap (λ u. u.addr) same, ap (λ u. u.port) same, eq-eqb server.addr server.addr refl, eq-eqb server.port server.port refl) refl in
    cc

next_position : (count len : ℕ) → cond (nat_lt (1 + count) (suc len)) (Some (1 + count)) None ≡ option_map suc (cond (nat_lt count len) (Some count) None)
next_position count len = grind (arith, nat_tests)

met_behind : (server : Peer) (p : Proxy) (proxies : List Proxy) → leads_to server p ≡ false → met_number server (p ∷ proxies) ≡ option_map suc (met_number server proxies)
met_behind server p proxies test = rw test (next_position (position_or_len (leads_to server) proxies) (length proxies))

first_position : (len : ℕ) → cond {A = Option ℕ} (nat_lt 0 (suc len)) (Some 0) None ≡ Some 0
first_position len = grind (arith, nat_tests)

met_here : (server : Peer) (p : Proxy) (proxies : List Proxy) → leads_to server p ≡ true → met_number server (p ∷ proxies) ≡ Some 0
met_here server p proxies test = rw test (first_position (length proxies))

first_behind : (server : Peer) (p : Proxy) (proxies : List Proxy) (o : Option ℕ) → p.upstream ≢ server → MatchOption o (AllByRecursion (λ q. q.upstream ≢ server) proxies) (IsFirstFor server proxies) → MatchOption (option_map suc o) (AllByRecursion (λ q. q.upstream ≢ server) (p ∷ proxies)) (IsFirstFor server (p ∷ proxies))
first_behind server p proxies None other none = (other, none)
first_behind server p proxies (Some n) other first = record {
  before = p ∷ first.before;
  proxy = first.proxy;
  after = first.after;
  split = ap (λ ps. p ∷ ps) first.split;
  place = ap suc first.place;
  leads = first.leads;
  others = (other, first.others);
}

Met : Peer → List Proxy → Option ℕ → Type 0
Met server proxies o = MatchOption o (AllByRecursion (λ q. q.upstream ≢ server) proxies) (IsFirstFor server proxies)

pub first_is_met : FirstIsMet
unfolding Met
first_is_met server [] = tt
first_is_met server (p ∷ proxies) = by (leads_to server p) refl (first_is_met server proxies)
  where
    by : (b : Bool) → leads_to server p ≡ b → Met server proxies (met_number server proxies) → Met server (p ∷ proxies) (met_number server (p ∷ proxies))
    by true test later =
        rw (met_here server p proxies test)
        (record { before = []; proxy = p; after = proxies; split = refl; place = refl; leads = leads server p test; others = tt })
    by false test later = rw (met_behind server p proxies test) (first_behind server p proxies (met_number server proxies) (leads_not server p test) later)
