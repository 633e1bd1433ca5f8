-- Laws that several of the files below share.
pub mod Alike
pub mod FreshLaws
pub mod RefusedLaws
pub mod LowLaws
-- What the definitions of the router's calls come to.
pub mod RouterReport
pub mod RouterUnread
pub mod RouterPlaceLaws
pub mod RouterArrivals
pub mod RouterArrivedLaws
pub mod RouterEffects
pub mod RouterRefusals
pub mod RouterDone
pub mod RouterReached
pub mod RouterRepeats
pub mod RouterKept
pub mod RouterOnce
-- What the definitions of the node's calls come to.
pub mod NodeUnread
pub mod NodeUsed
pub mod NodeEffects
pub mod NodeRefusals
pub mod NodeReached
pub mod NodeOnce
-- What the definition of the server's login comes to.
pub mod ServerAnswers
pub mod ServerRefusals
pub mod ServerRule
pub mod ServerUnread
