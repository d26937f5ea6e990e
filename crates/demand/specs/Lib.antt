-- The three demands about calls: refusals (Refusing, demand 1), what an accepted call does (Following, demand 2), and what arrives of
-- the packets that are sent (Demands, demand 3).
--
-- A call is a frame f with the output o that is lent with it, both lists of numbers. Some claims ask `Bytes f`, and `Framed xs` of calls xs
-- (`Rattle.lent.specs.Calls`): every number of a frame is below 256. What a C caller hands over is an array of uint8_t, and an entry's
-- contract speaks of its bytes, so this holds of every call there is and restricts no caller. Nothing is asked of what a lent state or an
-- output holds.
pub mod Refusing
pub mod Following
pub mod Demands
