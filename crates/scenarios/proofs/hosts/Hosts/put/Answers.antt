use Rattle.std.proofs.Common.{◌≡◌, ℕ, Bool, true, false, cond, List, [], ◌∷◌, ◌++◌, Option, Some, None, option_map, refl, ap, ◌∙◌, bytes_eq, string_bytes, subst, rules, arith}
use Rattle.std.proofs.lemmas.List.Folds.{find-append}
use Rattle.std.specs.List.{find}
use Rattle.std.specs.Option.{option_or}
use Rattle.std.proofs.lemmas.Result.{IfOk-at_ok}
use Rattle.std.proofs.lemmas.Map.Text.{text_keys}
use Rattle.scenarios.specs.Hosts.{look_up, IsIndexOf}
use Rattle.scenarios.specs.declared.hosts.KnownHost.{KnownHost}
use Rattle.scenarios.proofs.hosts.Hosts.put.Goals as goal

-- what is found among the hosts, or else the last one
found_last : (found : Option KnownHost) (host : KnownHost) (same : Bool) → option_map (λ h. h.addr) (option_or found (cond same (Some host) None)) ≡ option_or (option_map (λ h. h.addr) found) (cond same (Some host.addr) None)
found_last None host true = refl
found_last None host false = refl
found_last (Some other) host same = refl

look_up_push : (hosts : List KnownHost) (host : KnownHost) (name : List ℕ) → look_up (hosts ++ host ∷ []) name ≡ option_or (look_up hosts name) (cond (bytes_eq host.name name) (Some host.addr) None)
look_up_push hosts host name =
    ap (option_map (λ h. h.addr)) (find-append (λ h. bytes_eq h.name name) hosts (host ∷ []))
    ∙ found_last (find (λ h. bytes_eq h.name name) hosts) host (bytes_eq host.name name)

pub invariant_of-self-2 : goal.invariant_of-self-2
invariant_of-self-2 c = λ q.
    let host : KnownHost = record { name = c.args.name.now; addr = c.args.addr } in
    let list : c.push.new.self.items ≡ c.args.self.now ++ host ∷ [] = search rules in
    let key = IfOk-at_ok (λ s. string_bytes s ≡ c.args.name.now) c.in_ok-key.was c.from_str.ensures.ok in
    let indexed = subst (IsIndexOf c.self.inside.index) c.self.view_is c.self.invariant q in
    let last = look_up_push c.args.self.now host q in
    rw (list, last, ← indexed) (grind (arith, text_keys, key))
