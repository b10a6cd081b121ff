-- That the log of each session is lawful: an induction over what the algorithms do, with what holds between the log and the
-- state while some of them are suspended (Invariant).
--
-- What holds of each member of a list: Each. The book, event by event, and a whole run of drops: Reading. The nodes of forests,
-- and that each has its row: Weights, Forests, Sound. Nodes that steps have in hand: Hands. One change of the page, with its
-- event where it has one: Rows, Upgrades, Reactions, Enqueuing, Ending, Lines, Making. Steps on a page: Steps, Giving, Primitives,
-- Nodes, PageDeeds. Steps of a session: Upgrading, Draining, Bodies, Submitting, Operations, Sessions, Scripts.
--
-- A new deed on the page is a case of `page_gives`, one on controls of `control_gives`, through internals of `internals_gives`, on
-- forms of `form_gives` (PageDeeds), one that submits of `submit_gives` (Submitting), another deed one of `deed_gives`, an operation
-- one of `resolved` (Operations), a command one of `performs` (Sessions), an action of a body one of `act_gives` (Bodies).
pub mod Each
pub mod Reading
pub mod Weights
pub mod Forests
pub mod Sound
pub mod Invariant
pub mod Hands
pub mod Rows
pub mod Upgrades
pub mod Reactions
pub mod Enqueuing
pub mod Ending
pub mod Steps
pub mod Giving
pub mod Primitives
pub mod Nodes
pub mod PageDeeds
pub mod Lines
pub mod Making
pub mod Upgrading
pub mod Draining
pub mod Bodies
pub mod Submitting
pub mod Operations
pub mod Sessions
pub mod Scripts
