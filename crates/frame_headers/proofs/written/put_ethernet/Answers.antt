-- The two addresses and the type, written one after another.
use Rattle.std.proofs.Common.{◌≡◌, ◌+◌, ◌-◌, Bool, true, false, is_some, rules, refl, ◌∙◌}
use Rattle.frame_headers.specs.Layout.{link_len}
use Rattle.frame_headers.specs.Headers.{link_bytes}
use Rattle.frame_headers.proofs.PartWrites.{ethernet_put}
use Rattle.frame_headers.proofs.written.put_ethernet.Goals as goal

after_addresses : (tagged : Bool) → 12 + (link_len tagged - 12) ≡ link_len tagged
after_addresses true = refl
after_addresses false = refl

pub returns : goal.returns
returns c =
    ethernet_put c.copy_from_slice.new.self c.copy_from_slice-2.new.self c.args.frame.now _ c.put_link.new.rest (link_bytes c.args.header.now.vlan) (link_len (is_some c.args.header.now.vlan) - 12) (search (rules, c.copy_from_slice.ensures.len)) (search (rules, c.copy_from_slice-2.ensures.len)) refl c.put_link.ensures
    ∙ rw (c.copy_from_slice.ensures.after, c.copy_from_slice-2.ensures.after, after_addresses (is_some c.args.header.now.vlan)) refl
