-- The steps keep to their laws: what the theorems ask of them holds of the definitions that the calls' contracts cite.
use Rattle.link.specs.Can.{Lawful}
use Rattle.link.specs.WrittenLaws.{beacon_codes, success_codes}
use Rattle.link.specs.ServerLaws.{server_logged_in}
use Rattle.link.specs.NodeLaws.{node_leaving, node_heard, node_succeeded, node_failed, node_left}
use Rattle.link.specs.RouterStepLaws.{router_beaconed, router_closing, router_requested, router_closed, router_replied}
use Rattle.link.specs.ReadLaws.{request_code, success_code, beacon_code, accept_code, beacon_reads, request_reads, access_reads, accept_reads, success_reads, own_check, unmasked}

-- each law that the theorems ask for, of the definitions
pub lawful : Lawful
lawful =
    record {
      node_leaving = node_leaving;
      node_heard = node_heard;
      node_succeeded = node_succeeded;
      node_failed = node_failed;
      node_left = node_left;
      router_beaconed = router_beaconed;
      router_closing = router_closing;
      router_requested = router_requested;
      router_closed = router_closed;
      router_replied = router_replied;
      server_logged_in = server_logged_in;
      request_code = request_code;
      success_code = success_code;
      beacon_code = beacon_code;
      accept_code = accept_code;
      beacon_reads = beacon_reads;
      beacon_codes = beacon_codes;
      success_codes = success_codes;
      request_reads = request_reads;
      access_reads = access_reads;
      accept_reads = accept_reads;
      success_reads = success_reads;
      own_check = own_check;
      unmasked = unmasked;
    }
