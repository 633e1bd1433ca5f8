-- `next_to` meets its contract.
use Rattle.told.specs.Print.{receiver}
use Rattle.told.proofs.printing.next_to.Goals as goal

pub returns-in-Address : goal.returns-in-Address
unfolding receiver
returns-in-Address c = rw c.in-Address.is c.next_hex.ensures

pub returns-in-Nobody : goal.returns-in-Nobody
unfolding receiver
returns-in-Nobody c = rw c.in-Nobody.is c.next_none.ensures

pub returns-in-Everyone : goal.returns-in-Everyone
unfolding receiver
returns-in-Everyone c = rw c.in-Everyone.is c.next_none-in-Everyone.ensures

pub returns-in-Server : goal.returns-in-Server
unfolding receiver
returns-in-Server c = rw c.in-Server.is c.next_none-in-Server.ensures
