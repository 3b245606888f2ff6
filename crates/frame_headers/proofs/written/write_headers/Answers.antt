-- The three headers, written one after another.
use Rattle.std.proofs.Common.{refl, rules, ap, ◌∙◌}
use Rattle.frame_headers.specs.Layout.{link_len}
use Rattle.frame_headers.proofs.PartWrites.{headers_put}
use Rattle.frame_headers.proofs.written.write_headers.Goals as goal

pub returns : goal.returns
returns c =
    headers_put c.args.header.now _ c.link_len-link.result c.args.frame.now c.put_ethernet.new.frame c.put_ipv4.new.head _ c.put_tcp.new.head (c.link_len-link.ensures ∙ ap link_len c.is_some.ensures) c.requires.room (search (rules, c.put_ethernet.auto)) refl c.put_ethernet.ensures c.put_ipv4.ensures refl c.put_tcp.ensures
