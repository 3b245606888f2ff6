-- What the worked rows unfold to be computed.
use Rattle.std.specs.Prelude.{⊤}
use Rattle.std.specs.Str.{is_utf8, chars}
use Rattle.std.specs.Net.Reader.{read_ipv4, read_octet, read_number}
use Rattle.serde_json.proofs.OnLiterals.{serde_json_on_literals}
use Rattle.scenarios.specs.ToxicsInFiles.{checked_toxic, toxic_in, toxics_from}
use Rattle.scenarios.specs.Proxies.{accepted_proxy, checked_proxy, proxy_in, proxies_from}

unfoldable pub rows_on_literals : ⊤
unfolding serde_json_on_literals is_utf8 chars accepted_proxy checked_proxy proxy_in proxies_from checked_toxic toxic_in toxics_from read_ipv4 read_octet read_number
rows_on_literals = tt
