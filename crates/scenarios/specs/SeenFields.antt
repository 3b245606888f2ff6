-- What is seen of the code's fields of proxies and of toxics, and of accepted ones.
use Rattle.serde_json.specs.View.{items_view}
use Rattle.scenarios.specs.Proxies.{ProxyFields, AcceptedProxy}
use Rattle.scenarios.specs.ToxicsInFiles.{ToxicFields, ToxicsRead, NamedToxic, with_toxic}
use Rattle.scenarios.specs.declared.proxies.FieldsRead.{FieldsRead}
use Rattle.scenarios.specs.declared.proxies.Accepted.{Accepted}
use Rattle.scenarios.specs.declared.toxics.TextsRead.{TextsRead}
use Rattle.scenarios.specs.declared.toxics.AcceptedToxic.{AcceptedToxic}

abbrev pub seen_fields : FieldsRead → ProxyFields
seen_fields m =
    record { name = m.name.now; upstream = m.upstream.now; enabled = m.enabled; toxics = items_view m.toxics.now }

abbrev pub seen_proxy : Accepted → AcceptedProxy
seen_proxy p =
    record { name = p.name.now; upstream = p.upstream; enabled = p.enabled; toxics = items_view p.toxics.now }

abbrev pub seen_texts : TextsRead → ToxicFields
seen_texts m = record { type_text = m.type_text.now; name = m.name.now; stream = m.stream.now }

abbrev pub seen_toxic : AcceptedToxic → NamedToxic
seen_toxic t = record { name = t.name.now; stream = t.stream; toxic = t.toxic }

abbrev pub after_accepted : ToxicsRead → AcceptedToxic → ToxicsRead
after_accepted read t = with_toxic read t.name.now t.stream t.toxic
