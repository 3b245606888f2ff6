-- The first member opens; each later one adds its packet.
use Rattle.std.proofs.Common.{◌≡◌, ◌∙◌, sym, ap, subst, ℕ, ◌<◌, ◌+◌, List, [], ◌∷◌, ◌++◌, length, take, drop, get_or, Option, arith, append_assoc, add-one, drop-cons, suc}
use Rattle.std.proofs.lemmas.List.{take_more}
use Rattle.conn_table.specs.declared.conns.Member.{Member}
use Rattle.closed_loop.specs.declared.packets.Packet.{Packet}
use Rattle.closed_loop.specs.declared.manners.Manners.{Manners}
use Rattle.closed_loop.specs.Packets.{Bringers, packets_of, packets_after, packet_of, bringers_view, IsBefore}
use Rattle.closed_loop.proofs.packets.packets_of.Goals as goal

opens : (manners : Manners) (recorded : List (Option ℕ)) (brought : Bringers) (ms : List Member) (o : Member) → 0 < length ms → o ≡ get_or ms 0 o
    → packets_after manners recorded brought o (take 1 ms) (drop 1 ms) ≡ packets_of manners recorded brought ms
opens manners recorded brought [] o some is = absurd (omega arith)
opens manners recorded brought (m ∷ ms) o some is = ap (λ (x : Member). packets_after manners recorded brought x (m ∷ []) ms) is

first : (ms : List Member) (o : Member) → 0 < length ms → o ≡ get_or ms 0 o → o ∷ [] ≡ take 1 ms
first [] o some is = absurd (omega arith)
first (m ∷ ms) o some is = ap (λ (x : Member). x ∷ []) is

more : (manners : Manners) (recorded : List (Option ℕ)) (brought : Bringers) (o : Member) (ms : List Member) (i : ℕ) (m : Member) (ps all : List Packet)
    → i < length ms → m ≡ get_or ms i m → ps ++ packets_after manners recorded brought o (take i ms) (drop i ms) ≡ all
    → (ps ++ packet_of manners recorded brought o (take i ms) m ∷ []) ++ packets_after manners recorded brought o (take (i + 1) ms) (drop (i + 1) ms) ≡ all
more manners recorded brought o ms i m ps all within is whole =
    let left : drop i ms ≡ m ∷ drop (i + 1) ms = rw (add-one) (drop-cons ms i m within ∙ ap (λ (x : Member). x ∷ drop (suc i) ms) (sym is)) in
    let taken : take (i + 1) ms ≡ take i ms ++ m ∷ [] = take_more ms i m within ∙ ap (λ (x : Member). take i ms ++ x ∷ []) (sym is) in
    append_assoc ps _ _ ∙ ap (λ (b : List Member). ps ++ packet_of manners recorded brought o (take i ms) m ∷ packets_after manners recorded brought o b (drop (i + 1) ms)) taken
    ∙ ap (λ (r : List Member). ps ++ packets_after manners recorded brought o (take i ms) r) (sym left) ∙ whole

pub loop-i-init : goal.loop-i-init
loop-i-init c =
    let ms = c.args.members.now in
    let o = c.index-members-0.result in
    let some : 0 < length ms = omega arith in
    record {
      whole = ap (λ (ps : List Packet). ps ++ packets_after c.args.making.manners c.args.making.recorded.now (bringers_view c.args.brought) o (take 1 ms) (drop 1 ms)) c.in_ok-packets.ensures.items
          ∙ opens c.args.making.manners c.args.making.recorded.now (bringers_view c.args.brought) ms o some c.index-members-0.is;
      before = subst (λ (b : List Member). IsBefore b c.with-before.result) (first ms o some c.index-members-0.is) (c.with-before.ensures [] c.nothing.ensures);
      seen = c.nothing_seen-seen.ensures.seen;
    }

pub loop-i-preserved : goal.loop-i-preserved
loop-i-preserved c =
    let ms = c.args.members.now in
    let o = c.index-members-0.result in
    let m = c.index-members-i.result in
    let i = c.loop-i.i in
    let manners = c.args.making.manners in
    let recorded = c.args.making.recorded.now in
    let brought = bringers_view c.args.brought in
    let within : i < length ms = omega arith in
    let pushed : c.push.new.self.items ≡ c.loop-i.packets.items ++ packet_of manners recorded brought o (take i ms) m ∷ [] =
    c.in_ok-push.ensures.items ∙ ap (λ (p : Packet). c.loop-i.packets.items ++ p ∷ []) (c.packet_of.ensures.packet (take i ms) c.loop-i.invariant.before) in
    let taken : take i ms ++ m ∷ [] ≡ take (i + 1) ms = sym (take_more ms i m within ∙ ap (λ (x : Member). take i ms ++ x ∷ []) (sym c.index-members-i.is)) in
    record {
      whole = ap (λ (ps : List Packet). ps ++ packets_after manners recorded brought o (take (i + 1) ms) (drop (i + 1) ms)) pushed
          ∙ more manners recorded brought o ms i m c.loop-i.packets.items (packets_of manners recorded brought ms) within c.index-members-i.is c.loop-i.invariant.whole;
      before = subst (λ (b : List Member). IsBefore b c.with-before-in-loop-i.result) taken (c.with-before-in-loop-i.ensures (take i ms) c.loop-i.invariant.before);
      seen = c.packet_of.ensures.seen;
    }
