-- How the requests are kept: each as a channel from its asker to its receivers, which the outcome closes.
use Rattle.std.specs.Prelude.{List, map, not}
use Rattle.wx_port.specs.Port.{Port}
use Rattle.wx_one_shot.specs.Requests.{Request}

-- the request that is kept as this channel
abbrev pub request_of : Port → Request
request_of port = record {
  asker = port.opener;
  receivers = port.receivers;
  still_open = port.live;
  is_settled = not
      port.is_open;
}

-- the requests by number
abbrev pub requests_of : List Port → List Request
requests_of ports = map request_of ports
